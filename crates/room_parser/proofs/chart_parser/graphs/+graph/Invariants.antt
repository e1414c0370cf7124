use Rattle.std.proofs.Common.{◌≡◌, ◌+◌, ◌*◌}
use Rattle.room_ast.specs.ChartTree.{item_views}
use Rattle.room_tokens.specs.Reader.{many, all_while}
use Rattle.room_tokens.specs.Single.{left, before_close}
use Rattle.room_tokens.proofs.Loop.{with_front}
use Rattle.room_parser.specs.chart_parser.Graphs.{item_to}
use Rattle.room_parser.proofs.chart_parser.graphs.+graph.Given as goal

abbrev pub decreases-items : goal.decreases-items
decreases-items l = 6 * l.depth + 5

abbrev pub decreases-item : goal.decreases-item
decreases-item l = 6 * l.depth + 4

abbrev pub decreases-state : goal.decreases-state
decreases-state l = 6 * l.depth + 3

abbrev pub decreases-refined_state : goal.decreases-refined_state
decreases-refined_state l = 6 * l.depth + 3

abbrev pub decreases-body_if : goal.decreases-body_if
decreases-body_if l = 6 * l.depth + 2

abbrev pub decreases-body : goal.decreases-body
decreases-body l = 6 * l.depth + 1

abbrev pub decreases-subgraph_if : goal.decreases-subgraph_if
decreases-subgraph_if l = 6 * l.depth

abbrev pub invariant-items-loop-alloc : goal.invariant-items-loop-alloc
invariant-items-loop-alloc l =
    with_front (item_views l.found.items) (many before_close (item_to l.depth) (l.turns + 1) (left l.rest)) ≡ all_while before_close (item_to l.depth) (left l.initial.rest)

abbrev pub decreases-items-loop-alloc : goal.decreases-items-loop-alloc
decreases-items-loop-alloc l = l.turns
