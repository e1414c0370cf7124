-- What lies in the run of a slot, and what doesn't.
use Rattle.std.proofs.Common.{◌≡◌, ℕ, zero, suc, ◌+◌, ◌<◌, ◌≤◌, ◌==◌, Bool, true, false, ◌&&◌, length, Option, Some, None, option_and_then, refl, sym, ◌∙◌, subst, eqb-true, eq-eqb, arith, ⊎_elim, inl, inr}
use Rattle.std.specs.Prelude.{nat_le}
use Rattle.std.specs.Option.{option_map_or}
use Rattle.std.proofs.lemmas.Bool.{and_parts, or_cases, or_left, or_right, leb-true, le-leb, cases_lt, cases_order}
use Rattle.std.proofs.lemmas.Option.{slice_get_within}
use Rattle.room_wiring.specs.declared.tables.Tables.{Tables}
use Rattle.room_wiring.specs.declared.slot.Slot.{Slot}
use Rattle.room_wiring.specs.Slots.{slot_at}
use Rattle.actor_duties.specs.Words.{container_of, container_number, is_part_of}
use Rattle.service_messages.specs.slot_runs.Runs.{is_inside, IsDepthFirst, IsRunEnd}

-- a test of what an option holds
pub held_true : {A : Type 0} (f : A → Bool) (o : Option A) → option_map_or f o false ≡ true → (x : A) × (o ≡ Some x) × (f x ≡ true)
held_true f None h = absurd cc
held_true f (Some x) h = (x, refl, h)

pub held_from : {A : Type 0} (f : A → Bool) (o : Option A) (x : A) (d : Bool) → o ≡ Some x → f x ≡ true → option_map_or f o d ≡ true
held_from f o x d e h = rw e h

pub not_true_false : (b : Bool) → b ≡ true → b ≡ false → ⊥
not_true_false b h k = cc

pub false_from : (b : Bool) → (b ≡ true → ⊥) → b ≡ false
false_from true h = absurd (h refl)
false_from false h = refl

pub same_some : (t : Tables) (s c d : ℕ) → container_of t s ≡ Some c → container_of t s ≡ Some d → c ≡ d
same_some t s c d h k = cc

-- a slot with a container is there
pub contained_there : (t : Tables) (s c : ℕ) → container_of t s ≡ Some c → s < length t.slots
unfolding container_of
contained_there t s c h = go (slot_at t s) refl h
  where
    go : (o : Option Slot) → slot_at t s ≡ o → option_and_then container_number o ≡ Some c → s < length t.slots
    go None e k = absurd cc
    go (Some x) e k = slice_get_within t.slots s x e

-- the container of a slot that is inside
pub record Inside (t : Tables) (c s : ℕ) : Type 0 where
  pub container : ℕ
  pub is : container_of t s ≡ Some container
  pub from : c ≤ container

pub inside_by : (t : Tables) (c s : ℕ) → is_inside t c s ≡ true → Inside t c s
unfolding is_inside
inside_by t c s h =
    let p = held_true (λ p. nat_le c p) (container_of t s) h in
    record { container = p.0; is = p.1; from = leb-true c p.0 p.2 }

pub inside_from : (t : Tables) (c s p : ℕ) → container_of t s ≡ Some p → c ≤ p → is_inside t c s ≡ true
unfolding is_inside
inside_from t c s p e l = held_from (λ p. nat_le c p) (container_of t s) p false e (le-leb c p l)

pub inside_more : (t : Tables) (a b s : ℕ) → a ≤ b → is_inside t b s ≡ true → is_inside t a s ≡ true
inside_more t a b s l h = let i = inside_by t b s h in let from = i.from in inside_from t a s i.container i.is (omega arith)

pub inside_there : (t : Tables) (c s : ℕ) → is_inside t c s ≡ true → s < length t.slots
inside_there t c s h = let i = inside_by t c s h in contained_there t s i.container i.is

-- a run ends before the run around it does
pub run_nested : (t : Tables) (o e s f : ℕ) → IsRunEnd t o e → IsRunEnd t s f → o < s → s < e → f ≤ e
run_nested t o e s f a b l k =
    elim (cases_lt e f) [
      | inl out ↦ absurd (not_true_false (is_inside t o e) (inside_more t o s e (omega arith) (b.inside e k out)) a.ends)
      | inr in_run ↦ in_run
    ]

-- a slot behind a run has its container outside of it
pub run_behind : (t : Tables) → IsDepthFirst t → (s e v c : ℕ) → IsRunEnd t s e → container_of t v ≡ Some c → e ≤ v → s ≤ c → c < e → ⊥
run_behind t first s e v c run is l from to =
    elim (cases_order e v) [
      | inl same ↦ not_true_false (is_inside t s e) (subst (λ z. is_inside t s z ≡ true) (sym same) (inside_from t s v c is from)) run.ends
      | inr other ↦
          elim other [
            | inl before ↦ not_true_false (is_inside t s e) (inside_more t s c e from (first.between v c e is to before)) run.ends
            | inr after ↦ absurd (omega arith)
          ]
    ]

part_by : (t : Tables) (s c : ℕ) → is_part_of t s c ≡ true → container_of t s ≡ Some c
part_by t s c h = let p = held_true (λ p. p == c) (container_of t s) h in p.1 ∙ subst (λ z. Some p.0 ≡ Some z) (eqb-true p.0 c p.2) refl

-- a part of a slot stands behind it, in its run
pub part_in_run : (t : Tables) → IsDepthFirst t → (c e s : ℕ) → IsRunEnd t c e → is_part_of t s c ≡ true → (c < s) × (s < e)
part_in_run t first c e s run h =
    let is = part_by t s c h in
    let less : c < s = first.behind s c is in
    let behind = run.behind in
    (less, elim (cases_lt s e) [ inl l ↦ l | inr out ↦ absurd (run_behind t first c e s c run is out (omega arith) behind) ])

-- what stands in the run of a slot behind c, but the slot itself, is no part of c
pub part_not_between : (t : Tables) (c n e s : ℕ) → IsRunEnd t n e → c < n → n < s → s < e → is_part_of t s c ≡ false
part_not_between t c n e s run l m k =
    let i = inside_by t n s (run.inside s m k) in
    let from = i.from in
    false_from (is_part_of t s c) (λ h. let same : i.container ≡ c = same_some t s i.container c i.is (part_by t s c h) in absurd (omega arith))

-- a number that is no slot's has no container
pub past_inside : (t : Tables) (c s : ℕ) → length t.slots ≤ s → is_inside t c s ≡ false
past_inside t c s l = false_from (is_inside t c s) (λ h. let there = inside_there t c s h in omega arith)

-- so far the slots behind s have their containers in its run
pub record RunsTo (t : Tables) (s e : ℕ) : Type 0 where
  pub behind : s < e
  pub there : e ≤ length t.slots
  pub inside : (u : ℕ) → s < u → u < e → is_inside t s u ≡ true

pub run_begun : (t : Tables) (s : ℕ) → s < length t.slots → RunsTo t s (s + 1)
run_begun t s l = record { behind = omega arith; there = omega arith; inside = λ u a b. absurd (omega arith) }

-- the run of a slot inside is passed over
pub run_on : (t : Tables) (s e f : ℕ) → RunsTo t s e → is_inside t s e ≡ true → IsRunEnd t e f → RunsTo t s f
run_on t s e f w h run =
    let behind = w.behind in
    let ends = run.behind in
    record {
      behind = omega arith;
      there = run.there;
      inside =
          λ u a b. elim (cases_order u e) [
            | inl here ↦ subst (λ z. is_inside t s z ≡ true) (sym here) h
            | inr other ↦ elim other [ inl before ↦ w.inside u a before | inr after ↦ inside_more t s e u (omega arith) (run.inside u after b) ]
          ];
    }

pub run_ended : (t : Tables) (s e : ℕ) → RunsTo t s e → is_inside t s e ≡ false → IsRunEnd t s e
run_ended t s e w h = record { behind = w.behind; there = w.there; inside = w.inside; ends = h }
