use Rattle.room_run.proofs.AnswerLaws.{calls_have_one_answer}
use Rattle.room_run.proofs.answers.one_answer.Goals as goal

pub returns : goal.returns
returns c = calls_have_one_answer
