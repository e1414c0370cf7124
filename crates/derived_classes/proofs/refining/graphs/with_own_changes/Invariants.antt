use Rattle.std.proofs.Common.{◌≡◌, drop}
use Rattle.room_ast.specs.ChartTree.{body_if_view}
use Rattle.derived_classes.specs.Refining.{all_widened, own_changes}
use Rattle.derived_classes.specs.Views.{refining_views}
use Rattle.derived_classes.proofs.refining.graphs.with_own_changes.Given as goal

abbrev pub invariant-loop-one : goal.invariant-loop-one
invariant-loop-one l = all_widened (own_changes (refining_views (drop l.one-index l.pending))) (body_if_view l.body) ≡ all_widened (own_changes (refining_views l.pending)) (body_if_view l.initial.body)
