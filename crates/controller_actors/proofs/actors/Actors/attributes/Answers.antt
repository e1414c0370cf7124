use Rattle.std.proofs.Common.{◌∙◌}
use Rattle.controller_actors.specs.Bodies.{vacant}
use Rattle.controller_actors.proofs.Seeing.{attributes_seen}
use Rattle.controller_actors.proofs.actors.Actors.attributes.Goals as goal

pub returns-in-Some : goal.returns-in-Some
returns-in-Some c =
    c.attributes.ensures ∙ attributes_seen c.args.plant.now c.args.me.0 c.args.self.now c.args.slot.0 c.in-Some.found.now (rw c.in-Some.is at c.slot.ensures)

pub returns-in-None : goal.returns-in-None
returns-in-None c = attributes_seen c.args.plant.now c.args.me.0 c.args.self.now c.args.slot.0 vacant (rw c.in-None.is at c.slot.ensures)
