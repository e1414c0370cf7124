use Rattle.std.proofs.Common.{◌≡◌, ◌++◌, take}
use Rattle.derived_classes.proofs.derived_class.add_interface.Given as goal

abbrev pub invariant-loop-item : goal.invariant-loop-item
invariant-loop-item l = l.items.items ≡ l.initial.items.items ++ take l.item-index l.more
