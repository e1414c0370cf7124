use Rattle.std.proofs.Common.{refl}
use Rattle.room_timer.specs.Timers.{due_by}
use Rattle.timed_runs.proofs.examples.is_not_yet_due.Goals as goal

pub returns : goal.returns
unfolding due_by
returns c = refl
