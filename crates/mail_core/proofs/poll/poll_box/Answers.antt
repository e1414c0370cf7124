use Rattle.std.proofs.Common.{arith}
use Rattle.mail_core.proofs.PollLemmas.{polls_fewer}
use Rattle.mail_core.proofs.poll.poll_box.Goals as goal

pub returns-in_default-clause-ok : goal.returns-in_default-clause-ok
returns-in_default-clause-ok g c = polls_fewer c.loop-look.invariant.looked (omega arith) c.in_default.ensures.log c.in_default.ensures.none
