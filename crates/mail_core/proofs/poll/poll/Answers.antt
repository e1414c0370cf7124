use Rattle.std.proofs.Common.{refl}
use Rattle.mail_core.proofs.Tied.{StaysTied-refl}
use Rattle.mail_core.proofs.PollLemmas.{Polled-none}
use Rattle.mail_core.proofs.poll.poll.Goals as goal

pub loop-b-init : goal.loop-b-init
loop-b-init g c = record { polled = Polled-none; party = refl; parties = refl; now = c.requires; tied = StaysTied-refl }
