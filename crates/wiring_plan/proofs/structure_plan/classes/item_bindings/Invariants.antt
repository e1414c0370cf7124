use Rattle.std.proofs.Common.{◌≡◌, ◌++◌, drop}
use Rattle.std.specs.List.{filter_map}
use Rattle.wiring_plan.specs.structure_plan.Plans.{item_binding}
use Rattle.wiring_plan.proofs.structure_plan.classes.item_bindings.Given as goal

abbrev pub invariant-loop-item : goal.invariant-loop-item
invariant-loop-item l = l.plans.items ++ filter_map (item_binding l.actors l.class) (drop l.item-index l.items) ≡ filter_map (item_binding l.actors l.class) l.items
