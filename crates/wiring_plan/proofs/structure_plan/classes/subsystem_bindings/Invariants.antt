use Rattle.std.proofs.Common.{◌≡◌, ◌++◌, drop, map}
use Rattle.std.specs.List.{filter_map}
use Rattle.room_ast.specs.Trees.{subsystem_item_view}
use Rattle.wiring_plan.specs.structure_plan.Plans.{subsystem_binding}
use Rattle.wiring_plan.proofs.structure_plan.classes.subsystem_bindings.Given as goal

abbrev pub invariant-loop-item : goal.invariant-loop-item
invariant-loop-item l = l.plans.items ++ filter_map (subsystem_binding l.actors l.class) (map subsystem_item_view (drop l.item-index l.items)) ≡ filter_map (subsystem_binding l.actors l.class) (map subsystem_item_view l.items)
