use Rattle.std.proofs.Common.{◌≡◌, drop}
use Rattle.room_ast.specs.ChartTree.{graph_view}
use Rattle.room_inherit.specs.Rules.{is_plain}
use Rattle.room_inherit.proofs.rules.plain.+plain.Given as goal

abbrev pub invariant-is_plain-loop-item : goal.invariant-is_plain-loop-item
invariant-is_plain-loop-item l = is_plain (graph_view (drop l.item-index l.items.items)) ≡ is_plain (graph_view l.items.items)
