use Rattle.std.proofs.Common.{◌≡◌, map, drop}
use Rattle.room_ast.specs.Trees.{subsystem_item_view}
use Rattle.check_mappings.specs.mapping_rules.Places.{place_view}
use Rattle.check_mappings.specs.mapping_rules.Rules.{items_allowed}
use Rattle.check_mappings.proofs.mapping_rules.allowed.items_allowed.Given as goal

abbrev pub invariant-loop-item : goal.invariant-loop-item
invariant-loop-item l =
    items_allowed l.classes (place_view l.place) (map subsystem_item_view (drop l.item-index l.items))
    ≡ items_allowed l.classes (place_view l.place) (map subsystem_item_view l.items)
