-- The first slot of a reference at an index, sought among the parts of a container.
use Rattle.std.proofs.Common.{◌≡◌, ℕ, zero, suc, ◌+◌, ◌<◌, ◌≤◌, ◌==◌, Bool, true, false, ◌&&◌, cond, List, [], ◌∷◌, length, Option, Some, None, option_and_then, refl, sym, ap, ◌∙◌, arith, inl, inr}
use Rattle.std.specs.Prelude.{position, slice_get, nat_lt}
use Rattle.std.specs.List.{position_or_len}
use Rattle.std.specs.Option.{option_map_or}
use Rattle.std.proofs.lemmas.Bool.{and_left, cases_lt, cases_order, lt-ltb, le-ltb}
use Rattle.room_wiring.specs.declared.tables.Tables.{Tables}
use Rattle.room_wiring.specs.declared.slot.Slot.{Slot}
use Rattle.room_wiring.specs.Slots.{slot_at}
use Rattle.actor_duties.specs.Words.{container_of, container_number, is_slot_for, is_part_of}
use Rattle.service_messages.specs.slot_runs.Runs.{IsDepthFirst, IsRunEnd}
use Rattle.service_messages.proofs.slot_runs.RunLemmas.{false_from, not_true_false, part_in_run, part_not_between, run_nested}

-- no item before this place passes
abbrev pub NoneBefore : {A : Type 0} → (A → Bool) → List A → ℕ → Type 0
NoneBefore {A} p xs n = (k : ℕ) (x : A) → k < n → slice_get xs k ≡ Some x → p x ≡ false

first_at : {A : Type 0} (p : A → Bool) (xs : List A) (n : ℕ) (x : A) → NoneBefore p xs n → slice_get xs n ≡ Some x → p x ≡ true → (position_or_len p xs ≡ n) × (n < length xs)
first_at {A} p [] n x none is h = absurd cc
first_at {A} p (y ∷ ys) zero x none is h =
    let same : y ≡ x = cc in
    let passes : p y ≡ true = ap p same ∙ h in
    let first : position_or_len p (y ∷ ys) ≡ 0 = rw passes refl in
    (first, omega arith)
first_at {A} p (y ∷ ys) (suc n) x none is h =
    let fails : p y ≡ false = none 0 y (omega arith) refl in
    let later = first_at p ys n x (λ k z l e. none (suc k) z (omega arith) e) is h in
    let next : position_or_len p (y ∷ ys) ≡ 1 + position_or_len p ys = rw fails refl in
    let at = later.0 in
    let to = later.1 in
    (omega arith, omega arith)

pub position_found : {A : Type 0} (p : A → Bool) (xs : List A) (n : ℕ) (x : A) → NoneBefore p xs n → slice_get xs n ≡ Some x → p x ≡ true → position p xs ≡ Some n
position_found {A} p xs n x none is h =
    let at = first_at p xs n x none is h in
    ap (λ k. cond (nat_lt k (length xs)) (Some k) None) at.0 ∙ ap (λ b. cond b (Some n) None) (lt-ltb n (length xs) at.1)

past_all : {A : Type 0} (p : A → Bool) (xs : List A) → NoneBefore p xs (length xs) → position_or_len p xs ≡ length xs
past_all {A} p [] none = refl
past_all {A} p (y ∷ ys) none =
    let fails : p y ≡ false = none 0 y (omega arith) refl in
    let next : position_or_len p (y ∷ ys) ≡ 1 + position_or_len p ys = rw fails refl in
    let rest : position_or_len p ys ≡ length ys = past_all p ys (λ k z l e. none (suc k) z (omega arith) e) in
    omega arith

pub position_none : {A : Type 0} (p : A → Bool) (xs : List A) → NoneBefore p xs (length xs) → position p xs ≡ None
position_none {A} p xs none =
    ap (λ k. cond (nat_lt k (length xs)) (Some k) None) (past_all p xs none) ∙ ap (λ b. cond b (Some (length xs)) None) (le-ltb (length xs) (length xs) (omega arith))

-- a slot that is no part of c is none for a reference of c
not_for : (t : Tables) (c r i s : ℕ) (x : Slot) → slot_at t s ≡ Some x → is_part_of t s c ≡ false → is_slot_for c r i x ≡ false
unfolding container_of
not_for t c r i s x e h =
    let other : option_map_or (λ p. p == c) (container_number x) false ≡ false =
    ap (λ (o : Option Slot). option_map_or (λ p. p == c) (option_and_then container_number o) false) (sym e) ∙ h in
    and_left (option_map_or (λ p. p == c) (container_number x) false && (x.reference == r)) (x.index == i)
    (and_left (option_map_or (λ p. p == c) (container_number x) false) (x.reference == r) other)

-- up to n no slot is the one that is sought
pub record IsSought (t : Tables) (c r i e n : ℕ) : Type 0 where
  pub behind : c < n
  pub within : n ≤ e
  pub none : NoneBefore (is_slot_for c r i) t.slots n

pub sought_begun : (t : Tables) → IsDepthFirst t → (c r i e : ℕ) → IsRunEnd t c e → IsSought t c r i e (c + 1)
sought_begun t first c r i e run =
    let ends = run.behind in
    record {
      behind = omega arith;
      within = omega arith;
      none =
          λ k x l is. not_for t c r i k x is
          (false_from (is_part_of t k c) (λ h. let b = part_in_run t first c e k run h in let less = b.0 in absurd (omega arith)));
    }

pub sought_on : (t : Tables) (c r i e n f : ℕ) (x : Slot) → IsRunEnd t c e → n < e → slot_at t n ≡ Some x → is_slot_for c r i x ≡ false → IsRunEnd t n f → IsSought t c r i e n → IsSought t c r i e f
sought_on t c r i e n f x run l is fails skipped w =
    let behind = w.behind in
    let ends = skipped.behind in
    record {
      behind = omega arith;
      within = run_nested t c e n f run skipped behind l;
      none =
          λ k y m at. elim (cases_order k n) [
            | inl here ↦ let same : x ≡ y = cc in (sym (ap (is_slot_for c r i) same) ∙ fails)
            | inr other ↦ elim other [ inl before ↦ w.none k y before at | inr after ↦ not_for t c r i k y at (part_not_between t c n f k skipped behind after m) ]
          ];
    }

pub sought_found : (t : Tables) (c r i e n : ℕ) (x : Slot) → slot_at t n ≡ Some x → is_slot_for c r i x ≡ true → IsSought t c r i e n → position (is_slot_for c r i) t.slots ≡ Some n
sought_found t c r i e n x is h w = position_found (is_slot_for c r i) t.slots n x w.none is h

pub sought_ended : (t : Tables) → IsDepthFirst t → (c r i e n : ℕ) → IsRunEnd t c e → e ≤ n → IsSought t c r i e n → position (is_slot_for c r i) t.slots ≡ None
sought_ended t first c r i e n run l w =
    position_none (is_slot_for c r i) t.slots
    (λ k x m is. elim (cases_lt k n) [
      | inl before ↦ w.none k x before is
      | inr after ↦
          not_for t c r i k x is (false_from (is_part_of t k c) (λ h. let b = part_in_run t first c e k run h in let to = b.1 in absurd (omega arith)))
    ])
