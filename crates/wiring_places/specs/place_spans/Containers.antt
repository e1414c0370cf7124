-- What the bindings of containers take.
use Rattle.std.specs.Prelude.{◌≡◌, ℕ, ◌+◌, ◌-◌, ◌^◌, ◌<◌, false, List, [], ◌∷◌, length}
use Rattle.room_wiring.specs.declared.slot.Slot.{Slot}
use Rattle.wiring_plan.specs.declared.structure_plan.plan.ClassPlan.{ClassPlan}
use Rattle.wiring_plan.specs.declared.structure_plan.plan.StructurePlan.{StructurePlan}
use Rattle.wiring_places.specs.declared.binding_stretches.class.ClassStretches.{ClassStretches}
use Rattle.wiring_places.specs.binding_stretches.Taken.{taken_in}
use Rattle.wiring_places.specs.place_rules.Parts.{container_class}
use Rattle.wiring_places.specs.place_rules.Stretches.{stretches, all_taken}
use Rattle.wiring_places.specs.place_rules.Pairs.{lacks_place, lacks_place_from}

-- what the bindings of a class take
pub record IsOfClass (plan : StructurePlan) (class : ClassPlan) (y : ClassStretches) : Type 0 where
  pub stretches : y.stretches.items ≡ stretches plan class
  pub taken : taken_in y.taken ≡ all_taken plan class

-- what the bindings of containers take, the first of which is c
abbrev pub AreStretchesFrom : StructurePlan → List Slot → ℕ → List ClassStretches → Type 0
AreStretchesFrom plan slots c [] = Unit {0}
AreStretchesFrom plan slots c (y ∷ ys) = IsOfClass plan (container_class plan slots c) y × AreStretchesFrom plan slots (c + 1) ys

-- what the bindings of all containers take, of which each pairs something
pub record AreContainers (plan : StructurePlan) (slots : List Slot) (ys : List ClassStretches) : Type 0 where
  pub pairing : lacks_place plan slots ≡ false
  pub size : length ys ≡ length slots + 1
  pub each : AreStretchesFrom plan slots 0 ys

-- what is known of the first i + 1 containers, of which each pairs something
pub record AreSoFar (plan : StructurePlan) (slots : List Slot) (i : ℕ) (ys : List ClassStretches) : Type 0 where
  pub pairing : lacks_place_from plan slots (i + 1) (length slots - i) ≡ lacks_place plan slots
  pub size : length ys ≡ i + 1
  pub each : AreStretchesFrom plan slots 0 ys

-- the bindings of each container take so few places of each side that these have numbers of 64 bits
abbrev pub TakesFew : StructurePlan → List Slot → Type 0
TakesFew plan slots = (c side : ℕ) → all_taken plan (container_class plan slots c) side < 2 ^ 64
