use Rattle.std.proofs.Common.{◌≡◌, drop}
use Rattle.derived_classes.specs.Grouping.{gather_all}
use Rattle.derived_classes.specs.Views.{group_views, refining_views}
use Rattle.derived_classes.proofs.refining.grouped.gather_all.Given as goal

abbrev pub invariant-loop-one : goal.invariant-loop-one
invariant-loop-one l = gather_all l.names (refining_views (drop l.one-index l.pending)) (group_views l.groups.items) ≡ gather_all l.names (refining_views l.pending) (group_views l.initial.groups.items)
