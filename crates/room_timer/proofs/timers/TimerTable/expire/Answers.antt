use Rattle.std.proofs.Common.{ap, ◌∙◌}
use Rattle.std.specs.Map.{values_of}
use Rattle.room_timer.specs.Timers.{Timers, due_by}
use Rattle.room_timer.proofs.Placed.{least_due}
use Rattle.room_timer.proofs.timers.TimerTable.expire.Goals as goal

pub expire-requires : goal.expire-requires
expire-requires c =
    least_due c.args.until c.args.time (values_of c.self.inside.armed)
    (ap (λ (ts : Timers). due_by c.args.until ts.armed) c.self.view_is ∙ c.requires.due)
