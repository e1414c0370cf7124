use Rattle.action_parse.proofs.action_reading.Whole.{one_program, one_condition}
use Rattle.action_parse.proofs.action_reading.laws.one_tree.Goals as goal

pub returns-clause-program : goal.returns-clause-program
returns-clause-program c = one_program

pub returns-clause-condition : goal.returns-clause-condition
returns-clause-condition c = one_condition
