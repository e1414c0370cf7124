use Rattle.std.proofs.Common.{◌≡◌, List, [], ◌++◌, Some, drop, map}
use Rattle.std.specs.List.{flat_map}
use Rattle.room_ast.specs.Trees.{SubsystemItemTree, subsystem_item_view}
use Rattle.wiring_slots.specs.declared.slot_tree.names.MappingPlan.{MappingPlan}
use Rattle.wiring_slots.specs.slot_names.Ways.{item_mappings}
use Rattle.wiring_slots.proofs.slot_names.names.mappings_in.Given as goal

abbrev pub invariant-loop-item : goal.invariant-loop-item
invariant-loop-item l =
    let added : SubsystemItemTree → List MappingPlan = item_mappings l.actors l.threads (record { steps = []; place = Some l.wired.container.now }) in
    l.plans ++ flat_map added (map subsystem_item_view (drop l.item-index l.wired.items.now)) ≡ flat_map added (map subsystem_item_view l.wired.items.now)
