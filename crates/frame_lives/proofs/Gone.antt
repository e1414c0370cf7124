-- Lives without actors that have ended.
use Rattle.std.proofs.Common.{◌≡◌, ℕ, zero, suc, ◌+◌, ◌<◌, ◌≤◌, ◌==◌, Bool, true, false, not, ◌&&◌, ◌||◌, cond, List, [], ◌∷◌, map, filter, reverse, length, get_or, drop, drop-cons, add-one, refl, sym, ap, ◌∙◌, arith, inl, inr}
use mathlib.Core.List.{reverse_aux}
use Rattle.std.proofs.Math.Path.{fun_ext}
use Rattle.std.specs.List.{list_any, range_with_len}
use Rattle.std.proofs.lemmas.Bool.{and_left, cases_lt, cases_order, eq-eqb, ne_eqb}
use Rattle.room_kinds.specs.declared.numbers.Incarnation.{Incarnation}
use Rattle.std.proofs.lemmas.Option.{slice_get_within}
use Rattle.room_wiring.specs.declared.tables.Tables.{Tables}
use Rattle.room_wiring.specs.declared.slot.Slot.{Slot}
use Rattle.room_wiring.specs.Slots.{slot_at}
use Rattle.actor_duties.specs.Words.{updated, is_own, slots_of}
use Rattle.actor_duties.specs.State.{Lives}
use Rattle.actor_duties.specs.Lives.{is_reached, goes_down, ended_slots, lives_ended, last_of}
use Rattle.service_messages.proofs.slot_runs.RunLemmas.{held_true, false_from}
use Rattle.frame_lives.specs.Known.{Known}
use Rattle.frame_lives.specs.Shown.{with_lives}
use Rattle.frame_lives.specs.Steps.{ended, is_among, lives_without}

same_lives : (l : Lives) {a b : ℕ → Bool} → a ≡ b → ◌≡◌ {A = Lives} (record { generation = l.generation; lives = a }) (record { generation = l.generation; lives = b })
same_lives l e = cc

-- one has ended, and then the others
pub without_more : (x : Incarnation) (xs : List Incarnation) (l : Lives) → lives_without (x ∷ xs) l ≡ lives_without xs (ended x.slot.0 l)
unfolding updated
without_more x xs l = same_lives l (fun_ext (λ s. one (s == x.slot.0) (is_among xs s) (l.lives s)))
  where
    one : (a b c : Bool) → (not (a || b) && c) ≡ (not b && cond a false c)
    one true true c = refl
    one true false c = refl
    one false b c = refl

-- one more of these has ended
pub without_next : (first before after : Known) (xs : List Incarnation) (i : ℕ) (d : Incarnation) → i < length xs
    → after ≡ with_lives before (ended (get_or xs i d).slot.0 before.lives)
    → with_lives first (lives_without xs first.lives) ≡ with_lives before (lives_without (drop i xs) before.lives)
    → with_lives first (lives_without xs first.lives) ≡ with_lives after (lives_without (drop (i + 1) xs) after.lives)
without_next first before after xs i d there is so_far =
    let rest : drop i xs ≡ get_or xs i d ∷ drop (i + 1) xs = rw add-one (drop-cons xs i d there) in
    so_far ∙ ap (λ (ys : List Incarnation). with_lives before (lives_without ys before.lives)) rest
    ∙ ap (with_lives before) (without_more (get_or xs i d) (drop (i + 1) xs) before.lives)
    ∙ ap (λ (k : Known). with_lives k (lives_without (drop (i + 1) xs) k.lives)) (sym is)

-- whether a number is among these
abbrev pub is_one : List ℕ → ℕ → Bool
is_one ss s = list_any (λ a. s == a) ss

among_map : (l : Lives) (ss : List ℕ) (s : ℕ) → is_among (map (last_of l) ss) s ≡ is_one ss s
among_map l [] s = refl
among_map l (a ∷ ss) s = ap (λ b. (s == a) || b) (among_map l ss s)

one_onto : (ss acc : List ℕ) (s : ℕ) → is_one (reverse_aux ss acc) s ≡ (is_one ss s || is_one acc s)
one_onto [] acc s = refl
one_onto (a ∷ ss) acc s = one_onto ss (a ∷ acc) s ∙ move (is_one ss s) (s == a) (is_one acc s)
  where
    move : (b a c : Bool) → (b || (a || c)) ≡ ((a || b) || c)
    move true true c = refl
    move true false c = refl
    move false true c = refl
    move false false c = refl

or_false : (b : Bool) → (b || false) ≡ b
or_false true = refl
or_false false = refl

one_reversed : (ss : List ℕ) (s : ℕ) → is_one (reverse ss) s ≡ is_one ss s
one_reversed ss s = one_onto ss [] s ∙ or_false (is_one ss s)

-- a number is among those that pass a test if it passes, and stands in the range
one_passing : (p : ℕ → Bool) (a n s : ℕ) → a ≤ s → s < a + n → is_one (filter p (range_with_len a n)) s ≡ p s
one_passing p a zero s from to = absurd (omega arith)
one_passing p a (suc n) s from to = elim (cases_order s a) [
  | inl here ↦ first here (p a) refl
  | inr other ↦
      elim other [
        | inl before ↦ absurd (omega arith)
        | inr after ↦ later (p a) (ne_eqb s a (λ e. omega arith)) (one_passing p (a + 1) n s (omega arith) (omega arith))
      ]
]
  where
    later : (b : Bool) → (s == a) ≡ false → is_one (filter p (range_with_len (a + 1) n)) s ≡ p s
        → is_one (cond b (a ∷ filter p (range_with_len (a + 1) n)) (filter p (range_with_len (a + 1) n))) s ≡ p s
    later true none ih = ap (λ b. b || is_one (filter p (range_with_len (a + 1) n)) s) none ∙ ih
    later false none ih = ih

    first : s ≡ a → (b : Bool) → p a ≡ b → is_one (cond (p a) (a ∷ filter p (range_with_len (a + 1) n)) (filter p (range_with_len (a + 1) n))) s ≡ p s
    first here true e =
        ap (λ b. is_one (cond b (a ∷ filter p (range_with_len (a + 1) n)) (filter p (range_with_len (a + 1) n))) s) e
        ∙ ap (λ b. b || is_one (filter p (range_with_len (a + 1) n)) s) (eq-eqb s a here) ∙ sym (ap p here ∙ e)
    first here false e =
        ap (λ b. is_one (cond b (a ∷ filter p (range_with_len (a + 1) n)) (filter p (range_with_len (a + 1) n))) s) e
        ∙ none_before p (a + 1) n s (omega arith) ∙ sym (ap p here ∙ e)
      where
        none_before : (p : ℕ → Bool) (a n s : ℕ) → s < a → is_one (filter p (range_with_len a n)) s ≡ false
        none_before p a zero s b = refl
        none_before p a (suc n) s b = step (p a) (ne_eqb s a (λ e. omega arith)) (none_before p (a + 1) n s (omega arith))
          where
            step : (b : Bool) → (s == a) ≡ false → is_one (filter p (range_with_len (a + 1) n)) s ≡ false
                → is_one (cond b (a ∷ filter p (range_with_len (a + 1) n)) (filter p (range_with_len (a + 1) n))) s ≡ false
            step true none ih = ap (λ b. b || is_one (filter p (range_with_len (a + 1) n)) s) none ∙ ih
            step false none ih = ih

one_past : (p : ℕ → Bool) (a n s : ℕ) → a + n ≤ s → is_one (filter p (range_with_len a n)) s ≡ false
one_past p a zero s b = refl
one_past p a (suc n) s b = step (p a) (ne_eqb s a (λ e. omega arith)) (one_past p (a + 1) n s (omega arith))
  where
    step : (b : Bool) → (s == a) ≡ false → is_one (filter p (range_with_len (a + 1) n)) s ≡ false
        → is_one (cond b (a ∷ filter p (range_with_len (a + 1) n)) (filter p (range_with_len (a + 1) n))) s ≡ false
    step true none ih = ap (λ b. b || is_one (filter p (range_with_len (a + 1) n)) s) none ∙ ih
    step false none ih = ih

not_own : (t : Tables) (me s : ℕ) → length t.slots ≤ s → is_own t me s ≡ false
unfolding is_own
not_own t me s b = false_from (is_own t me s) (λ h.
    let x = held_true (λ (x : Slot). x.owner.0 == me) (slot_at t s) h in
    let there : s < length t.slots = slice_get_within t.slots s x.0 x.1 in
    omega arith)

-- a number that is no slot's doesn't go down
not_past : (t : Tables) (me : ℕ) (l : Lives) (o s : ℕ) → length t.slots ≤ s → goes_down t me l o s ≡ false
unfolding goes_down
not_past t me l o s b =
    and_left (is_own t me s && is_reached t me l o s) (l.lives s) (and_left (is_own t me s) (is_reached t me l o s) (not_own t me s b))

-- who ends is who goes down
pub among_ended : (t : Tables) (me : ℕ) (l : Lives) (o s : ℕ) → is_among (map (last_of l) (ended_slots t me l o)) s ≡ goes_down t me l o s
unfolding ended_slots
among_ended t me l o s =
    among_map l (reverse (filter (goes_down t me l o) (slots_of t))) s ∙ one_reversed (filter (goes_down t me l o) (slots_of t)) s
    ∙ elim (cases_lt s (length t.slots)) [
      | inl there ↦ one_passing (goes_down t me l o) 0 (length t.slots) s (omega arith) (omega arith)
      | inr past ↦ one_past (goes_down t me l o) 0 (length t.slots) s (omega arith) ∙ sym (not_past t me l o s past)
    ]

-- lives without what ends are those after the end
pub without_ended : (t : Tables) (me : ℕ) (l : Lives) (o : ℕ) → lives_without (map (last_of l) (ended_slots t me l o)) l ≡ lives_ended t me o l
unfolding lives_ended
without_ended t me l o = same_lives l (fun_ext (λ s. ap (λ b. not b && l.lives s) (among_ended t me l o s)))
