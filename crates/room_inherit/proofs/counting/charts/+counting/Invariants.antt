use Rattle.std.proofs.Common.{◌≡◌, ◌-◌, length, drop}
use Rattle.room_ast.specs.ChartTree.{graph_view}
use Rattle.room_ast.specs.Tokens.{graph_tokens}
use Rattle.room_inherit.proofs.counting.charts.+counting.Given as goal

-- what is left once the rest is taken away
abbrev pub invariant-less_items-loop-item : goal.invariant-less_items-loop-item
invariant-less_items-loop-item l = l.left - length (graph_tokens (graph_view (drop l.item-index l.items.items))) ≡ l.fn.left - length (graph_tokens (graph_view l.items.items))
