use Rattle.std.proofs.Common.{◌-◌, length}
use Rattle.timed_runs.specs.Shown.{shown}
use Rattle.timed_runs.proofs.Stepping.{Passing}
use Rattle.timed_runs.proofs.walk.Walk.go_on.Given as goal

abbrev pub invariant-loop-self : goal.invariant-loop-self
invariant-loop-self l = Passing (shown l.fn.self) (shown l.self)

abbrev pub decreases-loop-self : goal.decreases-loop-self
decreases-loop-self l = length l.self.lines.now - l.self.to
