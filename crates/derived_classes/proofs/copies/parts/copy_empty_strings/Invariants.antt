use Rattle.std.proofs.Common.{◌≡◌, length}
use Rattle.derived_classes.proofs.copies.parts.copy_empty_strings.Given as goal

abbrev pub invariant-loop-i : goal.invariant-loop-i
invariant-loop-i l = length l.copies.items ≡ l._i
