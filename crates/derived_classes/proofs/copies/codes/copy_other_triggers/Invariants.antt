use Rattle.std.proofs.Common.{◌≡◌, take}
use Rattle.derived_classes.proofs.copies.codes.copy_other_triggers.Given as goal

abbrev pub invariant-loop-trigger : goal.invariant-loop-trigger
invariant-loop-trigger l = l.copies.items ≡ take l.trigger-index l.trigger-items
