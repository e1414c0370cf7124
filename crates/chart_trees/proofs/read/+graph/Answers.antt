use Rattle.std.proofs.Common.{List, map, ap, ◌∙◌, arith}
use Rattle.room_ast.specs.declared.chart.GraphItem.{GraphItem}
use Rattle.room_ast.specs.ChartTree.{item_view, graph_view}
use Rattle.chart_trees.specs.chart_codes.Progress.{progress}
use Rattle.chart_trees.specs.Around.{around}
use Rattle.chart_trees.specs.Reading.{piece_of}
use Rattle.chart_trees.specs.Views.{around_view, piece_view}
use Rattle.action_lang.proofs.action_check.Built.{grows_on}
use Rattle.chart_trees.proofs.Growing.{none_grown}
use Rattle.chart_trees.proofs.Steps.{items_begin, items_next, items_end}
use Rattle.chart_trees.proofs.read.+graph.Goals as goal

pub read_graph-loop-item-init : goal.read_graph-loop-item-init
read_graph-loop-item-init t c = record {
  read =
      items_begin c.args.scope.now c.args.items.now.items (around_view c.in_ok-around.around) c.args.owner.now (piece_view c.begun-piece.result c.args.names.now) (progress c.args.marks c.args.names.now)
      (c.in_ok-around.ensures ∙ ap (λ (xs : List GraphItem). around (map item_view xs)) c.as_slice.ensures.value) (c.begun-piece.ensures c.args.names.now);
  grown = none_grown c.args.names.now;
}

pub read_graph-loop-item-preserved : goal.read_graph-loop-item-preserved
read_graph-loop-item-preserved t c =
    let is = rw c.deref-item-items.ensures.value at c.item-item.is in record {
      read =
          items_next c.args.scope.now c.args.items.now.items c.loop-item.item-index c.item-item.result (around_view c.in_ok-around.around) c.args.owner.now (piece_view c.loop-item.piece c.loop-item.names) (piece_view c.add_item.new.piece c.add_item.new.names)
          (piece_of c.args.scope.now (graph_view c.args.items.now.items) c.args.owner.now (progress c.args.marks c.args.names.now)) (omega arith) is c.loop-item.invariant.read c.in_ok-add_item.ensures.item;
      grown = grows_on c.args.names.now c.loop-item.names c.add_item.new.names c.loop-item.invariant.grown c.in_ok-add_item.ensures.grown;
    }

pub read_graph-returns-clause-piece : goal.read_graph-returns-clause-piece
read_graph-returns-clause-piece t c =
    items_end c.args.scope.now c.args.items.now.items c.loop-item.item-index (around_view c.in_ok-around.around) c.args.owner.now (piece_view c.loop-item.piece c.loop-item.names)
    (piece_of c.args.scope.now (graph_view c.args.items.now.items) c.args.owner.now (progress c.args.marks c.args.names.now)) (omega arith) c.loop-item.invariant.read

pub read_graph-returns-in_err-add_item-clause-grown : goal.read_graph-returns-in_err-add_item-clause-grown
read_graph-returns-in_err-add_item-clause-grown t c = grows_on c.args.names.now c.loop-item.names c.add_item.new.names c.loop-item.invariant.grown c.in_err-add_item.ensures.grown
