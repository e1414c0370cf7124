use Rattle.std.proofs.Common.{◌≡◌, drop}
use Rattle.derived_classes.specs.Searching.{all_passed}
use Rattle.derived_classes.specs.Views.{refining_views, search_views, transition_names}
use Rattle.derived_classes.proofs.rules.search.pass_all.Given as goal

abbrev pub invariant-loop-one : goal.invariant-loop-one
invariant-loop-one l =
    all_passed l.states (transition_names l.transitions) (refining_views (drop l.one-index l.sought)) (search_views l.searches.items) ≡ all_passed l.states (transition_names l.transitions) (refining_views l.sought) (search_views l.initial.searches.items)
