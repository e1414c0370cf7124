-- Which places a binding pairs, in the words of the language: those that no earlier binding paired.
-- `stretches` goes along the bindings of a class and counts how much of each side is taken. The law
-- `bindings_take_free_places`: a place of a side of a binding was paired by an earlier binding of the class
-- exactly where it lies before those that the binding pairs. So each binding pairs the first places of its
-- sides that are free, and no place is paired twice.
use Rattle.std.specs.Prelude.{◌≡◌, ◌↔◌, ◌⊎◌, ℕ, zero, suc, ◌+◌, ◌<◌, ◌≤◌, List, [], ◌∷◌, Some, slice_get}
use Rattle.wiring_plan.specs.declared.structure_plan.plan.BindingPlan.{BindingPlan}
use Rattle.wiring_plan.specs.declared.structure_plan.plan.ClassPlan.{ClassPlan}
use Rattle.wiring_plan.specs.declared.structure_plan.plan.StructurePlan.{StructurePlan}
use Rattle.wiring_places.specs.declared.place_rules.stretch.Stretch.{Stretch}
use Rattle.wiring_places.specs.place_rules.Stretches.{side_number, stretches}

-- a place lies among so many from this one on
abbrev pub IsAmong : ℕ → ℕ → ℕ → Type 0
IsAmong first count place = (first ≤ place) × (place < first + count)

-- a binding with this stretch pairs a place of a side
abbrev pub Pairs : BindingPlan → Stretch → ℕ → ℕ → Type 0
Pairs b s side place = ((side_number b.left ≡ side) × IsAmong s.left s.count place) ⊎ ((side_number b.right ≡ side) × IsAmong s.right s.count place)

-- one of the first so many bindings pairs it
abbrev pub PairedBefore : ℕ → List BindingPlan → List Stretch → ℕ → ℕ → Type 0
PairedBefore zero bs ss side place = ⊥
PairedBefore (suc n) [] ss side place = ⊥
PairedBefore (suc n) (b ∷ bs) [] side place = ⊥
PairedBefore (suc n) (b ∷ bs) (s ∷ ss) side place = Pairs b s side place ⊎ PairedBefore n bs ss side place

-- a binding pairs the places of its sides from the first one on that no earlier binding paired
pub record TakesFree (before : ℕ) (bs : List BindingPlan) (ss : List Stretch) (b : BindingPlan) (s : Stretch) : Type 0 where
  pub left : (place : ℕ) → PairedBefore before bs ss (side_number b.left) place ↔ (place < s.left)
  pub right : (place : ℕ) → PairedBefore before bs ss (side_number b.right) place ↔ (place < s.right)

-- over every class of every structure, and each of its bindings
abbrev pub BindingsTakeFreePlaces : Type 0
BindingsTakeFreePlaces =
    (plan : StructurePlan) (class : ClassPlan) (i : ℕ) (b : BindingPlan) (s : Stretch)
    → slice_get class.bindings i ≡ Some b → slice_get (stretches plan class) i ≡ Some s → TakesFree i class.bindings (stretches plan class) b s
