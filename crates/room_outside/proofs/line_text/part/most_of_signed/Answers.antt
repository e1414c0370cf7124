use Rattle.std.proofs.Common.{arith}
use Rattle.std.proofs.lemmas.Fmt.{length_signed_le}
use Rattle.room_outside.proofs.line_text.part.most_of_signed.Goals as goal

pub returns-clause-covers : goal.returns-clause-covers
returns-clause-covers c = length_signed_le 19 c.args._number (omega (arith, c.ranges._number.sfits)) (omega (arith, c.ranges._number.sfits))
