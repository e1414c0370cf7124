use Rattle.room_run.proofs.AnswerLaws.{shows_are_exact}
use Rattle.room_run.proofs.answers.shows_are_exact.Goals as goal

pub returns : goal.returns
returns c = shows_are_exact
