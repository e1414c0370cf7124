use Rattle.std.proofs.Common.{◌≡◌, map, take}
use Rattle.derived_classes.specs.Grouping.{no_group}
use Rattle.derived_classes.specs.Views.{group_views}
use Rattle.derived_classes.proofs.refining.grouped.no_groups.Given as goal

abbrev pub invariant-loop-name : goal.invariant-loop-name
invariant-loop-name l = group_views l.groups.items ≡ map (λ n. no_group) (take l._name-index l.names)
