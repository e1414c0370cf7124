use Rattle.std.proofs.Common.{◌∙◌}
use Rattle.controller_actors.specs.Bodies.{vacant}
use Rattle.controller_actors.proofs.Seeing.{state_seen}
use Rattle.controller_actors.proofs.actors.Actors.state.Goals as goal

pub returns-in-Some : goal.returns-in-Some
returns-in-Some c =
    c.state.ensures ∙ state_seen c.args.plant.now c.args.me.0 c.args.self.now c.args.slot.0 c.in-Some.found.now (rw c.in-Some.is at c.slot.ensures)

pub returns-in-None : goal.returns-in-None
returns-in-None c = state_seen c.args.plant.now c.args.me.0 c.args.self.now c.args.slot.0 vacant (rw c.in-None.is at c.slot.ensures)
