use Rattle.std.proofs.Common.{◌≡◌}
use Rattle.derived_classes.specs.Searching.{all_succeed, toil}
use Rattle.derived_classes.specs.Views.{search_views}
use Rattle.derived_classes.proofs.rules.search.all_succeed.Given as goal

abbrev pub invariant-loop-alloc : goal.invariant-loop-alloc
invariant-loop-alloc l = all_succeed (search_views l.searches.items) ≡ all_succeed (search_views l.initial.searches.items)

abbrev pub decreases-loop-alloc : goal.decreases-loop-alloc
decreases-loop-alloc l = toil (search_views l.searches.items)
