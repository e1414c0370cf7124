use Rattle.std.proofs.Common.{◌≡◌, min, take}
use Rattle.std.specs.List.{sum_by}
use Rattle.check_classes.specs.class_sizes.Sizes.{cap}
use Rattle.check_mappings.specs.count_rules.Counting.{item_size}
use Rattle.check_mappings.proofs.count_rules.numbers.size_of_items.Given as goal

abbrev pub invariant-loop-item : goal.invariant-loop-item
invariant-loop-item l = l.size ≡ min cap (sum_by (item_size l.names l.sizes) (take l.item-index l.items))
