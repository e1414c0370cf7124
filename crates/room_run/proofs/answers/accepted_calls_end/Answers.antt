use Rattle.room_run.proofs.AnswerLaws.{accepted_calls_end}
use Rattle.room_run.proofs.answers.accepted_calls_end.Goals as goal

pub returns : goal.returns
returns c = accepted_calls_end
