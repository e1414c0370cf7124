use Rattle.timed_runs.proofs.Later.{none_is_due}
use Rattle.timed_runs.proofs.laws.done_timers_are_later.Goals as goal

pub returns : goal.returns
returns c = λ t lines expansion left j e done none. none_is_due t lines expansion left j e done none
