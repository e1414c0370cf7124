use Rattle.std.proofs.Common.{refl}
use Rattle.room_timer.specs.Timers.{due_by}
use Rattle.timed_runs.proofs.examples.comes_to_messages.Goals as goal

pub returns : goal.returns
unfolding due_by
returns c = refl
