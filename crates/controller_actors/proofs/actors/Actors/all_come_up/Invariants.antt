use Rattle.std.proofs.Common.{take}
use Rattle.actor_world.specs.Turns.{all_begun}
use Rattle.controller_actors.specs.Plants.{model_of}
use Rattle.controller_actors.specs.Steps.{Moves, StayEmpty}
use Rattle.controller_actors.proofs.actors.Actors.all_come_up.Given as goal

-- those so far came up
abbrev pub invariant-loop-who : goal.invariant-loop-who
invariant-loop-who l =
    Moves (all_begun (model_of l.plant) l.plant.wiring l.me.0 (take l.who-index l.made)) l.plant l.me.0 l.fn.self l.fn.output l.self l.output
    × StayEmpty l.plant l.me.0 l.fn.self l.self
