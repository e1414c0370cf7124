use Rattle.std.proofs.Common.{◌≡◌, drop}
use Rattle.room_ast.specs.ChartTree.{graph_view}
use Rattle.room_inherit.specs.Rules.{is_plain_inside}
use Rattle.room_inherit.proofs.rules.plain.is_plain_inside.Given as goal

abbrev pub invariant-loop-item : goal.invariant-loop-item
invariant-loop-item l = is_plain_inside (graph_view (drop l.item-index l.items.items)) ≡ is_plain_inside (graph_view l.items.items)
