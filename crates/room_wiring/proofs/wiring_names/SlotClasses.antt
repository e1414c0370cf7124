-- The names of the classes that slots have, while they are numbered.
use Rattle.std.proofs.Common.{◌≡◌, ℕ, suc, zero, ◌+◌, ◌<◌, ◌≤◌, Bool, true, false, cond, List, [], ◌∷◌, ◌++◌, length, map, refl, sym, ap, ◌∙◌, Option, Some, None, not, nat_eq, nat_lt, arith}
use Rattle.std.specs.Prelude.{slice_get, option_map, option_and_then}
use Rattle.std.proofs.lemmas.Bool.Decides.{nat_tests}
use Rattle.std.specs.List.{list_any}
use Rattle.std.proofs.lemmas.List.{map-append}
use Rattle.indexmap.specs.IndexSet.{insert_key}
use Rattle.std.proofs.lemmas.Option.{slice_get-map, slice_get_past}
use Rattle.room_wiring.specs.declared.tables.Tables.{Tables}
use Rattle.room_wiring.specs.declared.slot.Slot.{Slot}
use Rattle.room_wiring.specs.declared.wiring_names.class_names.ClassNumbers.{ClassNumbers}
use Rattle.room_wiring.specs.Slots.{slot_at, class_of}
use Rattle.room_wiring.specs.wiring_names.Tables.{numbers_of_class}
use Rattle.room_wiring.specs.wiring_names.Index.{AreNumbersOf, GoesOn, class_numbers}
use Rattle.room_wiring.proofs.wiring_names.Found.{class_there, no_class}

not_true : (b : Bool) → not b ≡ true → b ≡ false
not_true true e = sym e
not_true false e = refl

not_false : (b : Bool) → not b ≡ false → b ≡ true
not_false true e = refl
not_false false e = sym e

inner : {A : Type 0} (o w : Option A) → option_map (λ (n : A). Some n) o ≡ Some w → o ≡ w
inner None w e = absurd cc
inner (Some n) w e = cc

-- where a class stands among those that were numbered, its names stand
pub found_at : (t : Tables) (numbers : List ℕ) (names : List ClassNumbers) (i class : ℕ) → AreNumbersOf t numbers names → slice_get numbers i ≡ Some class → slice_get names i ≡ class_numbers t class
found_at t numbers names i class are at =
    inner (slice_get names i) (class_numbers t class)
    (sym (slice_get-map (λ (n : ClassNumbers). Some n) names i) ∙ ap (λ (xs : List (Option ClassNumbers)). slice_get xs i) are
    ∙ slice_get-map (class_numbers t) numbers i ∙ ap (option_map (class_numbers t)) at)

-- one more class, which has not been numbered
pub numbers_next : (t : Tables) (old new : List ℕ) (names : List ClassNumbers) (n : ClassNumbers) (class : ℕ) (is_new : Bool) → AreNumbersOf t old names → is_new ≡ not (list_any (nat_eq class) old) → is_new ≡ true
    → new ≡ insert_key nat_eq old class → Some n ≡ class_numbers t class → AreNumbersOf t new (names ++ n ∷ [])
numbers_next t old new names n class is_new are added fresh keys is =
    let off : list_any (nat_eq class) old ≡ false = not_true (list_any (nat_eq class) old) (sym added ∙ fresh) in
    let pushed : new ≡ old ++ class ∷ [] = keys ∙ ap (λ (b : Bool). cond b old (old ++ class ∷ [])) off in
    map-append (λ (x : ClassNumbers). Some x) names (n ∷ []) ∙ ap (λ (xs : List (Option ClassNumbers)). xs ++ Some n ∷ []) are ∙ ap (λ (x : Option ClassNumbers). map (class_numbers t) old ++ x ∷ []) is
    ∙ sym (ap (map (class_numbers t)) pushed ∙ map-append (class_numbers t) old (class ∷ []))

-- and one that has
pub numbers_stay : (t : Tables) (old new : List ℕ) (names : List ClassNumbers) (class : ℕ) (is_new : Bool) → AreNumbersOf t old names → is_new ≡ not (list_any (nat_eq class) old) → is_new ≡ false
    → new ≡ insert_key nat_eq old class → AreNumbersOf t new names
numbers_stay t old new names class is_new are added known keys =
    let on : list_any (nat_eq class) old ≡ true = not_false (list_any (nat_eq class) old) (sym added ∙ known) in
    let same : new ≡ old = keys ∙ ap (λ (b : Bool). cond b old (old ++ class ∷ [])) on in
    are ∙ ap (map (class_numbers t)) (sym same)

there : {A : Type 0} (xs : List A) (i : ℕ) → i < length xs → (x : A) × (slice_get xs i ≡ Some x)
there [] i h = absurd (omega arith)
there (x ∷ xs) zero h = (x, refl)
there (x ∷ xs) (suc i) h = there xs i (omega arith)

in_front : {A : Type 0} (xs : List A) (y : A) (i : ℕ) → i < length xs → slice_get (xs ++ y ∷ []) i ≡ slice_get xs i
in_front [] y i h = absurd (omega arith)
in_front (x ∷ xs) y zero h = refl
in_front (x ∷ xs) y (suc i) h = in_front xs y i (omega arith)

at_the_end : {A : Type 0} (xs : List A) (y : A) → slice_get (xs ++ y ∷ []) (length xs) ≡ Some y
at_the_end [] y = refl
at_the_end (x ∷ xs) y = at_the_end xs y

stays : (old new : List ClassNumbers) (x : ClassNumbers) (o : Option ℕ) → GoesOn old new → option_and_then (slice_get old) o ≡ Some x → option_and_then (slice_get new) o ≡ Some x
stays old new x None goes_on e = e
stays old new x (Some place) goes_on e = goes_on place x e

-- each slot below a number finds the names of its class
abbrev pub FindsBelow : Tables → List ℕ → List ClassNumbers → ℕ → Type 0
FindsBelow t places names n = (s : ℕ) → s < n → (x : ClassNumbers) × (option_and_then (slice_get names) (slice_get places s) ≡ Some x) × (option_map numbers_of_class (class_of t s) ≡ Some x)

-- and so does the next one
pub finds_next : (t : Tables) (places : List ℕ) (old new : List ClassNumbers) (n place : ℕ) (slot : Slot) → length places ≡ n → slot_at t n ≡ Some slot → slot.class < length t.classes
    → GoesOn old new → slice_get new place ≡ class_numbers t slot.class → FindsBelow t places old n → FindsBelow t (places ++ place ∷ []) new (n + 1)
finds_next t places old new n place slot long at known goes_on found before s below = go (nat_lt s n) refl
  where
    go : (b : Bool) → nat_lt s n ≡ b → (x : ClassNumbers) × (option_and_then (slice_get new) (slice_get (places ++ place ∷ []) s) ≡ Some x) × (option_map numbers_of_class (class_of t s) ≡ Some x)
    go true e =
        let early : s < n = grind (arith, nat_tests) in
        let h = before s early in
        let same = in_front places place s (rw long early) in
        (h.0, ap (option_and_then (slice_get new)) same ∙ stays old new h.0 (slice_get places s) goes_on h.1, h.2)
    go false e =
        let is : s ≡ n = grind (arith, nat_tests) in
        let class = there t.classes slot.class known in
        let last : slice_get (places ++ place ∷ []) s ≡ Some place = ap (slice_get (places ++ place ∷ [])) (is ∙ sym long) ∙ at_the_end places place in
        let names : class_numbers t slot.class ≡ Some (numbers_of_class class.0) = ap (option_map numbers_of_class) class.1 in (
          numbers_of_class class.0,
          ap (option_and_then (slice_get new)) last ∙ found ∙ names,
          ap (λ (k : ℕ). option_map numbers_of_class (class_of t k)) is ∙ ap (option_map numbers_of_class) (class_there t n slot at) ∙ names,
        )

-- where all slots do, no other number finds any
pub finds_all : (t : Tables) (places : List ℕ) (names : List ClassNumbers) → length places ≡ length t.slots → FindsBelow t places names (length t.slots)
    → (s : ℕ) → option_and_then (slice_get names) (slice_get places s) ≡ option_map numbers_of_class (class_of t s)
finds_all t places names long found s = go (nat_lt s (length t.slots)) refl
  where
    go : (b : Bool) → nat_lt s (length t.slots) ≡ b → option_and_then (slice_get names) (slice_get places s) ≡ option_map numbers_of_class (class_of t s)
    go true e = let h = found s (grind (arith, nat_tests)) in h.1 ∙ sym h.2
    go false e =
        let past : length t.slots ≤ s = grind (arith, nat_tests) in
        let none : slice_get places s ≡ None = slice_get_past places s (rw long past) in
        ap (option_and_then (slice_get names)) none ∙ no_class t s (sym (slice_get_past t.slots s past))
