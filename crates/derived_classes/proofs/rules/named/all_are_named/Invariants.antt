use Rattle.std.proofs.Common.{◌≡◌, drop}
use Rattle.std.specs.List.{list_all}
use Rattle.room_ast.specs.ChartTree.{graph_view}
use Rattle.derived_classes.specs.Refining.{Refining, is_named}
use Rattle.derived_classes.specs.Views.{refining_views}
use Rattle.derived_classes.proofs.rules.named.all_are_named.Given as goal

abbrev pub invariant-loop-one : goal.invariant-loop-one
invariant-loop-one l =
    list_all (λ (r : Refining). is_named (graph_view l.items) r.path r.change) (refining_views (drop l.one-index l.pending)) ≡ list_all (λ (r : Refining). is_named (graph_view l.items) r.path r.change) (refining_views l.pending)
