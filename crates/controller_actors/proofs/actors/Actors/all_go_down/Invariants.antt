use Rattle.std.proofs.Common.{take, drop}
use Rattle.actor_world.specs.Turns.{all_gone}
use Rattle.controller_actors.specs.Bodies.{AreEmpty}
use Rattle.controller_actors.specs.Steps.{Moves}
use Rattle.controller_actors.proofs.actors.Actors.all_go_down.Given as goal

-- those so far are gone, and the rest are still to go
abbrev pub invariant-loop-who : goal.invariant-loop-who
invariant-loop-who l =
    Moves (all_gone l.plant.wiring l.me.0 (take l.who-index l.ended)) l.plant l.me.0 l.fn.self l.fn.output l.self l.output
    × (AreEmpty l.plant l.me.0 l.ended l.fn.self → AreEmpty l.plant l.me.0 (drop l.who-index l.ended) l.self)
