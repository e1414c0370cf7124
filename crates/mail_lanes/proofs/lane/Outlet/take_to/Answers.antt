use Rattle.mail_lanes.proofs.RuleLemmas.{owns}
use Rattle.mail_lanes.proofs.lane.Outlet.take_to.Goals as goal

pub pop_as-requires-clause-fifo : goal.pop_as-requires-clause-fifo
pop_as-requires-clause-fifo c = λ _. owns _ _ c.args.self.now.pushes c.requires.takes
