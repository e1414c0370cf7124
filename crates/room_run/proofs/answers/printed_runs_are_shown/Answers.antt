use Rattle.room_run.proofs.ShowLaws.{printed_runs_are_shown}
use Rattle.room_run.proofs.answers.printed_runs_are_shown.Goals as goal

pub returns : goal.returns
returns c = printed_runs_are_shown
