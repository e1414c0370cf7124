use Rattle.std.proofs.Common.{◌≡◌, ◌++◌, drop}
use Rattle.std.specs.List.{filter_map}
use Rattle.derived_classes.specs.Refining.{Refining}
use Rattle.derived_classes.specs.Derived.{transition_path}
use Rattle.derived_classes.specs.Views.{path_views, refining_views}
use Rattle.derived_classes.proofs.rules.once.transition_paths.Given as goal

abbrev pub invariant-loop-one : goal.invariant-loop-one
invariant-loop-one l =
    path_views l.paths.items ++ filter_map (λ (r : Refining). transition_path r.path r.change) (refining_views (drop l.one-index l.pending)) ≡ filter_map (λ (r : Refining). transition_path r.path r.change) (refining_views l.pending)
