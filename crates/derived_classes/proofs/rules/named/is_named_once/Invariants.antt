use Rattle.std.proofs.Common.{◌≡◌, ◌+◌, cond, drop}
use Rattle.room_ast.specs.ChartTree.{graph_view}
use Rattle.derived_classes.specs.Refining.{transitions_named}
use Rattle.derived_classes.proofs.rules.named.is_named_once.Given as goal

abbrev pub invariant-loop-item : goal.invariant-loop-item
invariant-loop-item l = cond l.found 1 0 + transitions_named l.name (graph_view (drop l.item-index l.items)) ≡ transitions_named l.name (graph_view l.items)
