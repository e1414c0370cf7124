use Rattle.std.proofs.Common.{length, ap, arith}
use Rattle.derived_classes.proofs.Strings.{same_strings}
use Rattle.derived_classes.proofs.copies.parts.copy_empty_strings.Goals as goal

pub returns : goal.returns
returns c = same_strings _ _ (omega (arith, ap length c.from.ensures))
