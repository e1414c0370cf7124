use Rattle.inject_reader.specs.declared.inject_lines.accepted.Advances.TheVariants.{Taken}
use Rattle.inject_reader.proofs.FittingLaws.{given_fit}
use Rattle.inject_reader.proofs.reader.read_injections.Goals as goal

pub returns-clause-fit : goal.returns-clause-fit
returns-clause-fit c = given_fit Taken (λ v. v.items) c.args.wiring.now c.args.bytes.now c.read.result c.read.ensures
