use Rattle.law_definitions.proofs.Codes.{one_each}
use Rattle.law_definitions.proofs.codes_have_one_program.Goals as goal

pub returns : goal.returns
returns c = one_each
