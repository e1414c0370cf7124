use Rattle.controller.proofs.quiet_counts.QuietLaw.{quiet_if_even, busy_if_odd}
use Rattle.controller.proofs.quiet_counts.quiet.is_quiet.Goals as goal

pub returns-then-posted-fetched : goal.returns-then-posted-fetched
returns-then-posted-fetched c = λ plant lines w s.
    quiet_if_even plant c.args.all.now c.args.environment.now w s c.in_all-posted.result c.in_all-fetched.result c.someone_keeps.result
    c.in_all-posted.ensures c.in_all-fetched.ensures c.someone_keeps.ensures c.if-posted-fetched.true lines

pub returns-else-posted-fetched : goal.returns-else-posted-fetched
returns-else-posted-fetched c = λ plant lines w s.
    busy_if_odd plant c.args.all.now c.args.environment.now w s c.in_all-posted.result c.in_all-fetched.result
    c.in_all-posted.ensures c.in_all-fetched.ensures c.if-posted-fetched.false lines
