use Rattle.std.proofs.Common.{◌≡◌, map, take}
use Rattle.room_ast.specs.ChartTree.{item_view}
use Rattle.derived_classes.proofs.copies.charts.+copying.Given as goal

abbrev pub invariant-copy_items-loop-item : goal.invariant-copy_items-loop-item
invariant-copy_items-loop-item l = map item_view l.copies.items ≡ map item_view (take l.item-index l.items.items)
