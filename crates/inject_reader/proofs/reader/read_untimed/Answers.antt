use Rattle.inject_reader.specs.declared.inject_lines.accepted.Advances.TheVariants.{Refused}
use Rattle.inject_reader.proofs.FittingLaws.{given_fit, given_untimed}
use Rattle.inject_reader.proofs.reader.read_untimed.Goals as goal

pub returns-clause-fit : goal.returns-clause-fit
returns-clause-fit c = given_fit Refused (λ v. v.items) c.args.wiring.now c.args.bytes.now c.read.result c.read.ensures

pub returns-clause-untimed : goal.returns-clause-untimed
returns-clause-untimed c = given_untimed (λ v. v.items) c.args.wiring.now c.args.bytes.now c.read.result c.read.ensures
