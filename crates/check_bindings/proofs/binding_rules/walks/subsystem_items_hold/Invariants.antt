use Rattle.std.proofs.Common.{◌≡◌, drop, map}
use Rattle.std.specs.List.{list_all}
use Rattle.room_ast.specs.Trees.{subsystem_item_view}
use Rattle.check_bindings.specs.binding_rules.Rules.{subsystem_item_passes}
use Rattle.check_bindings.specs.binding_rules.Walks.{binding_holds, layer_holds}
use Rattle.check_bindings.proofs.binding_rules.walks.subsystem_items_hold.Given as goal

abbrev pub invariant-loop-item : goal.invariant-loop-item
invariant-loop-item l =
    list_all (subsystem_item_passes (binding_holds l.rule l.actors l.class) (layer_holds l.rule l.actors l.class)) (map subsystem_item_view (drop l.item-index l.items))
    ≡ list_all (subsystem_item_passes (binding_holds l.rule l.actors l.class) (layer_holds l.rule l.actors l.class)) (map subsystem_item_view l.items)
