use Rattle.room_run.proofs.AnswerLaws.{verdicts_are_exact}
use Rattle.room_run.proofs.answers.verdicts_are_exact.Goals as goal

pub returns : goal.returns
returns c = verdicts_are_exact
