-- The layer connections of a class by reference and protocol.
use Rattle.std.specs.Prelude.{ℕ, ◌+◌, ◌*◌, nat_eq, List, Option, Some, find}
use Rattle.std.specs.HashMap.{get}
use Rattle.wiring_plan.specs.declared.structure_plan.plan.LayerPlan.{LayerPlan}
use Rattle.wiring_plan.specs.declared.structure_plan.plan.ClassPlan.{ClassPlan}
use Rattle.wiring_plan.specs.declared.structure_plan.plan.StructurePlan.{StructurePlan}
use Rattle.wiring_places.specs.place_rules.Layers.{fits}
use Rattle.wiring_joins.specs.declared.layer_joins.index.LayerIndex.{LayerIndex}

-- the key of a reference and a protocol; both have numbers below 65,536
abbrev pub layer_key : ℕ → ℕ → ℕ
layer_key r p = r * 65536 + p

-- the layer connection of a key
unfoldable pub layer_at : LayerIndex → ℕ → Option LayerPlan
layer_at index key = get nat_eq index.layers key

-- the first of these layer connections that fits
abbrev pub first_fitting : StructurePlan → ClassPlan → ℕ → ℕ → List LayerPlan → Option LayerPlan
first_fitting plan class r p layers = find (fits plan class r (Some p)) layers
