use Rattle.std.proofs.Common.{◌≡◌, drop}
use Rattle.room_ast.specs.ChartTree.{graph_view}
use Rattle.action_lang.specs.action_check.Answers.{Grows}
use Rattle.chart_trees.specs.chart_codes.Progress.{progress}
use Rattle.chart_trees.specs.Reading.{with_items, piece_of}
use Rattle.chart_trees.specs.Views.{around_view, piece_view}
use Rattle.chart_trees.proofs.read.+graph.Given as goal

-- the items that are left complete what was read
abbrev pub invariant-read_graph-loop-item : goal.invariant-read_graph-loop-item
invariant-read_graph-loop-item l = record {
  read : with_items l.scope (graph_view (drop l.item-index l.items.items)) (around_view l.around) l.owner (piece_view l.piece l.names) ≡ piece_of l.scope (graph_view l.items.items) l.owner (progress l.fn.marks l.fn.names);
  grown : Grows l.fn.names l.names;
}
