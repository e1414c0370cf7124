-- The layer connections of all classes.
use Rattle.std.specs.Prelude.{◌≡◌, ℕ, ◌^◌, ◌<◌, List, [], ◌∷◌, Some}
use Rattle.wiring_plan.specs.declared.structure_plan.plan.ClassPlan.{ClassPlan}
use Rattle.wiring_plan.specs.declared.structure_plan.plan.StructurePlan.{StructurePlan}
use Rattle.wiring_places.specs.place_rules.Layers.{fitting}
use Rattle.wiring_joins.specs.declared.layer_joins.index.LayerIndex.{LayerIndex}
use Rattle.wiring_joins.specs.declared.layer_joins.indexes.Indexes.{Indexes}
use Rattle.wiring_joins.specs.layer_joins.Index.{layer_at, layer_key}

-- an index of a class's layer connections
pub record IsIndex (plan : StructurePlan) (class : ClassPlan) (index : LayerIndex) : Type 0 where
  pub found : (r p : ℕ) → r < 2 ^ 16 → p < 2 ^ 16 → layer_at index (layer_key r p) ≡ fitting plan class r (Some p)

-- indexes of these classes, in order
abbrev pub AreClassIndexes : StructurePlan → List ClassPlan → List LayerIndex → Type 0
AreClassIndexes plan [] [] = Unit {0}
AreClassIndexes plan [] (y ∷ ys) = ⊥
AreClassIndexes plan (c ∷ cs) [] = ⊥
AreClassIndexes plan (c ∷ cs) (y ∷ ys) = IsIndex plan c y × AreClassIndexes plan cs ys

-- the indexes of the subsystem and of the actor classes
pub record AreIndexes (plan : StructurePlan) (t : Indexes) : Type 0 where
  pub subsystem : IsIndex plan plan.subsystem t.subsystem
  pub classes : AreClassIndexes plan plan.classes t.classes.items
