use Rattle.std.proofs.Common.{◌≡◌, [], drop}
use Rattle.derived_classes.specs.Searching.{next_of}
use Rattle.derived_classes.specs.Views.{search_views}
use Rattle.derived_classes.proofs.rules.search.next_round.Given as goal

abbrev pub invariant-loop-search : goal.invariant-loop-search
invariant-loop-search l = next_of (search_views (drop l.search-index l.searches)) (search_views l.next.items) ≡ next_of (search_views l.searches) []
