use Rattle.std.proofs.Common.{◌+◌, ◌-◌, ◌*◌, length}
use Rattle.model_run.proofs.joined_round.halves.+halves.Given as goal

abbrev pub decreases-work_halves : goal.decreases-work_halves
decreases-work_halves g l = 4 * length l.seats.now

abbrev pub decreases-work_both : goal.decreases-work_both
decreases-work_both g l = 4 * (length l.front.now + length l.back.now) - 1

abbrev pub decreases-work_both-first : goal.decreases-work_both-first
decreases-work_both-first g l = 4 * length l.front.now + 1

abbrev pub decreases-work_both-second : goal.decreases-work_both-second
decreases-work_both-second g l = 4 * length l.back.now + 1
