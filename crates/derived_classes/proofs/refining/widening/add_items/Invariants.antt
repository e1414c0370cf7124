use Rattle.std.proofs.Common.{◌≡◌, ◌++◌, map, take}
use Rattle.room_ast.specs.ChartTree.{item_view}
use Rattle.derived_classes.proofs.refining.widening.add_items.Given as goal

abbrev pub invariant-loop-item : goal.invariant-loop-item
invariant-loop-item l = map item_view l.items.items ≡ map item_view l.initial.items.items ++ map item_view (take l.item-index l.more.items)
