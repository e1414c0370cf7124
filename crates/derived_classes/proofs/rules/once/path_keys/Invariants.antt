use Rattle.std.proofs.Common.{◌≡◌, map, take}
use Rattle.derived_classes.specs.Keys.{codes}
use Rattle.derived_classes.specs.Views.{path_views}
use Rattle.derived_classes.proofs.rules.once.path_keys.Given as goal

abbrev pub invariant-loop-path : goal.invariant-loop-path
invariant-loop-path l = l.keys.items ≡ map codes (path_views (take l.path-index l.paths))
