use Rattle.room_run.proofs.PrintedLaws.{printed_runs_are_lawful}
use Rattle.room_run.proofs.answers.printed_runs_are_lawful.Goals as goal

pub returns : goal.returns
returns c = printed_runs_are_lawful
