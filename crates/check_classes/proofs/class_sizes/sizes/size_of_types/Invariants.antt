use Rattle.std.proofs.Common.{◌≡◌, min, take}
use Rattle.std.specs.List.{sum_by}
use Rattle.check_classes.specs.class_sizes.Sizes.{size_by, cap}
use Rattle.check_classes.proofs.class_sizes.sizes.size_of_types.Given as goal

abbrev pub invariant-loop-entry : goal.invariant-loop-entry
invariant-loop-entry l = l.size ≡ min cap (sum_by (size_by l.sizes) (take l.entry-index l.types))
