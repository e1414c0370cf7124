use Rattle.controller_actors.specs.Steps.{Starts, first_below}
use Rattle.controller_actors.proofs.start.Starting.start_all.Given as goal

abbrev pub invariant-loop-number : goal.invariant-loop-number
invariant-loop-number l = Starts l.plant l.me.0 (first_below l.plant.wiring l.me.0 l.number) l.self
