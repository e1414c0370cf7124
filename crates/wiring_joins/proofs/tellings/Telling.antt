-- One more place, one more answer.
use Rattle.std.proofs.Common.{◌≡◌, ◌∙◌, ◌⊎◌, inl, inr, ℕ, zero, suc, ◌+◌, ◌<◌, ◌≤◌, ◌==◌, ◌&&◌, ◌||◌, Bool, true, false, List, [], ◌∷◌, ◌++◌, length, drop, refl, sym, ap, subst, arith}
use Rattle.std.specs.Prelude.{Option, Some, not, slice_get, slice_index_or, All}
use Rattle.std.proofs.lemmas.Bool.{cases_eq}
use Rattle.std.proofs.lemmas.List.{get_or_push, get_or_append_left, length_push}
use Rattle.std.proofs.lemmas.List.Elements.{All-push}
use Rattle.room_wiring.specs.declared.slot.Slot.{Slot}
use Rattle.room_wiring.specs.declared.slot.Partner.{Partner}
use Rattle.room_wiring.specs.declared.slot.Partner.TheVariants.{Nobody, End as EndPartner, Socket as SocketPartner}
use Rattle.wiring_places.specs.declared.place_rules.place.Place.{Place}
use Rattle.wiring_places.specs.place_rules.Partners.{is_end_role, owner_of, lets_tell, any_joined, is_told}
use Rattle.wiring_joins.proofs.place_joins.PlaceSteps.{any_more, any_end}
use Rattle.wiring_joins.specs.tellings.Marked.{marked, IsFor, Marking, IsRow}
use Rattle.wiring_joins.specs.tellings.Told.{SaysWhoIsTold}
use Rattle.wiring_joins.specs.declared.tellings.marks.Marks.{Marks}

-- a test that is true of none marks nothing
pub marking_none : (n k : ℕ) (test : ℕ → ℕ → Bool) (m : Marks) → IsFor n k m → ((s d : ℕ) → test s d ≡ false) → Marking n k test m m
marking_none n k test m size none = record { size = size; marks = λ s d sn dk. ap (λ (b : Bool). b || marked m s d) (sym (none s d)) }

-- tests that agree mark the same
pub marking_as : (n k : ℕ) (test other : ℕ → ℕ → Bool) (before after : Marks) → ((s d : ℕ) → test s d ≡ other s d) → Marking n k test before after → Marking n k other before after
marking_as n k test other before after same h = record { size = h.size; marks = λ s d sn dk. h.marks s d sn dk ∙ ap (λ (b : Bool). b || marked before s d) (same s d) }

-- only end places let anybody tell
pub lets_none : (slots : List Slot) (s d : ℕ) (x : Place) (p : Partner) → is_end_role x.role ≡ false → lets_tell slots s d x p ≡ false
lets_none slots s d x Nobody e = refl
lets_none slots s d x (EndPartner t q k) e = let h = e in both (x.slot == s) (owner_of (slice_get slots t.0) == d)
  where
    both : (a c : Bool) → (a && is_end_role x.role && c) ≡ false
    both a c = rw e (neither a)
      where
        neither : (b : Bool) → (b && false && c) ≡ false
        neither true = refl
        neither false = refl
lets_none slots s d x (SocketPartner t q k) e = both (x.slot == s)
  where
    both : (a : Bool) → (a && is_end_role x.role) ≡ false
    both true = e
    both false = refl

-- the marks that are made before the place at i
pub record AreMarked (slots : List Slot) (places : List Place) (partners : List Partner) (controllers i : ℕ) (m : Marks) : Type 0 where
  pub size : IsFor (length slots) controllers m
  pub marks : (s d : ℕ) → s < length slots → d < controllers → (marked m s d || any_joined (lets_tell slots s d) (drop i places) (drop i partners)) ≡ any_joined (lets_tell slots s d) places partners

later : (t m rest : Bool) → ((t || m) || rest) ≡ (m || (t || rest))
later true true rest = refl
later true false rest = refl
later false m rest = refl

module _ (slots : List Slot) (places : List Place) (partners : List Partner) (controllers : ℕ) where
  pub marked_first : (m : Marks) → IsFor (length slots) controllers m → ((s d : ℕ) → marked m s d ≡ false) → AreMarked slots places partners controllers 0 m
  marked_first m size none = record { size = size; marks = λ s d sn dk. ap (λ (b : Bool). b || any_joined (lets_tell slots s d) places partners) (none s d) }

  pub marked_more : (i : ℕ) (x : Place) (p : Partner) (before after : Marks) → i < length places → i < length partners → x ≡ slice_index_or places i x → p ≡ slice_index_or partners i p
      → Marking (length slots) controllers (λ s d. lets_tell slots s d x p) before after → AreMarked slots places partners controllers i before → AreMarked slots places partners controllers (i + 1) after
  marked_more i x p before after ix ip x_is p_is made so_far = record {
    size = made.size;
    marks = λ s d sn dk.
        let test = lets_tell slots s d in
        let rest = any_joined test (drop (i + 1) places) (drop (i + 1) partners) in
        let here : test (slice_index_or places i x) (slice_index_or partners i p) ≡ test x p = sym (ap (λ (y : Place). test y p) x_is ∙ ap (λ (q : Partner). test (slice_index_or places i x) q) p_is) in
        let more : any_joined test (drop i places) (drop i partners) ≡ (test x p || rest) = any_more test places partners i x p ix ip ∙ ap (λ (b : Bool). b || rest) here in
        ap (λ (b : Bool). b || rest) (made.marks s d sn dk) ∙ later (test x p) (marked before s d) rest ∙ ap (λ (b : Bool). marked before s d || b) (sym more) ∙ so_far.marks s d sn dk;
  }

  or_false : (b : Bool) → (b || false) ≡ b
  or_false true = refl
  or_false false = refl

  pub marked_all : (i : ℕ) (m : Marks) → length places ≤ i → AreMarked slots places partners controllers i m → (s d : ℕ) → s < length slots → d < controllers → marked m s d ≡ any_joined (lets_tell slots s d) places partners
  marked_all i m le so_far s d sn dk = sym (or_false (marked m s d)) ∙ ap (λ (b : Bool). marked m s d || b) (sym (any_end (lets_tell slots s d) places partners i le)) ∙ so_far.marks s d sn dk

pub row_none : (marks : Marks) (slot owner : ℕ) → IsRow marks slot owner 0 []
row_none marks slot owner = record { size = refl; answers = λ d lt. absurd (omega arith) }

pub row_more : (marks : Marks) (slot owner i : ℕ) (row out : List Bool) (b : Bool) → b ≡ (not (owner == i) && marked marks slot i) → out ≡ row ++ b ∷ [] → IsRow marks slot owner i row → IsRow marks slot owner (i + 1) out
row_more marks slot owner i row out b b_is pushed h = record {
  size = ap length pushed ∙ length_push row b ∙ ap (λ (n : ℕ). n + 1) h.size;
  answers = λ d lt. ap (λ (xs : List Bool). slice_index_or xs d false) pushed ∙ at d (le_cases d lt);
}
  where
    le_cases : (d : ℕ) → d < i + 1 → (d < i) ⊎ (d ≡ i)
    le_cases d lt = elim (cases_eq d i) [ inl e ↦ inr e | inr apart ↦ inl (omega arith) ]

    at : (d : ℕ) → (d < i) ⊎ (d ≡ i) → slice_index_or (row ++ b ∷ []) d false ≡ (not (owner == d) && marked marks slot d)
    at d (inl lt) = get_or_append_left row (b ∷ []) false d (omega (arith, h.size)) ∙ h.answers d lt
    at d (inr e) = get_or_push row b false d (h.size ∙ sym e) ∙ b_is ∙ ap (λ (k : ℕ). not (owner == k) && marked marks slot k) (sym e)

-- what stands at a place of a list
get_at : {X : Type 0} (xs : List X) (i : ℕ) (x : X) → i < length xs → x ≡ slice_index_or xs i x → slice_get xs i ≡ Some x
get_at [] i x lt e = absurd (omega arith)
get_at (y ∷ ys) zero x lt e = ap (λ z. Some z) (sym e)
get_at (y ∷ ys) (suc i) x lt e = get_at ys i x (omega arith) e

-- the answers of the slots before i
pub record AreAnswered (slots : List Slot) (places : List Place) (partners : List Partner) (controllers i : ℕ) (told : List (List Bool)) : Type 0 where
  pub size : length told ≡ i
  pub rows : All (λ (row : List Bool). length row ≡ controllers) told
  pub answers : (s d : ℕ) → s < i → d < controllers → slice_index_or (slice_index_or told s []) d false ≡ is_told slots places partners s d

module _ (slots : List Slot) (places : List Place) (partners : List Partner) (controllers : ℕ) where
  pub answered_first : AreAnswered slots places partners controllers 0 []
  answered_first = record { size = refl; rows = λ k d lt. absurd (omega arith); answers = λ s d lt dk. absurd (omega arith) }

  pub answered_more : (m : Marks) (i : ℕ) (x : Slot) (row : List Bool) (told out : List (List Bool)) → ((s d : ℕ) → s < length slots → d < controllers → marked m s d ≡ any_joined (lets_tell slots s d) places partners) → i < length slots → x ≡ slice_index_or slots i x
      → IsRow m i x.owner.0 controllers row → out ≡ told ++ row ∷ [] → AreAnswered slots places partners controllers i told → AreAnswered slots places partners controllers (i + 1) out
  answered_more m i x row told out marks lt x_is is_row pushed h = record {
    size = ap length pushed ∙ length_push told row ∙ ap (λ (n : ℕ). n + 1) h.size;
    rows = subst (λ (rs : List (List Bool)). All (λ (r : List Bool). length r ≡ controllers) rs) (sym pushed) (All-push (λ (r : List Bool). length r ≡ controllers) told row h.rows is_row.size);
    answers = λ s d below dk. ap (λ (rs : List (List Bool)). slice_index_or (slice_index_or rs s []) d false) pushed ∙ at s d dk (le_cases s below);
  }
    where
      le_cases : (s : ℕ) → s < i + 1 → (s < i) ⊎ (s ≡ i)
      le_cases s below = elim (cases_eq s i) [ inl e ↦ inr e | inr apart ↦ inl (omega arith) ]

      here : (d : ℕ) → d < controllers → slice_index_or row d false ≡ is_told slots places partners i d
      here d dk = is_row.answers d dk ∙ ap (λ (b : Bool). not (x.owner.0 == d) && b) (marks i d lt dk) ∙ ap (λ (o : Option Slot). not (owner_of o == d) && any_joined (lets_tell slots i d) places partners) (sym (get_at slots i x lt x_is))

      at : (s d : ℕ) → d < controllers → (s < i) ⊎ (s ≡ i) → slice_index_or (slice_index_or (told ++ row ∷ []) s []) d false ≡ is_told slots places partners s d
      at s d dk (inl below) = ap (λ (r : List Bool). slice_index_or r d false) (get_or_append_left told (row ∷ []) [] s (omega (arith, h.size))) ∙ h.answers s d below dk
      at s d dk (inr e) = ap (λ (r : List Bool). slice_index_or r d false) (get_or_push told row [] s (h.size ∙ sym e)) ∙ here d dk ∙ ap (λ (t : ℕ). is_told slots places partners t d) (sym e)

  pub answered_all : (i : ℕ) (told : List (List Bool)) → i ≤ length slots → length slots ≤ i → AreAnswered slots places partners controllers i told → SaysWhoIsTold slots places partners controllers told
  answered_all i told le ge h =
      let all : i ≡ length slots = omega arith in
      record { answered = h.size ∙ all; rows = h.rows; answers = λ s d lt dk. h.answers s d (omega arith) dk }
