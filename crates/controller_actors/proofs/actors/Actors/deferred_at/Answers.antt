use Rattle.std.proofs.Common.{◌∙◌}
use Rattle.controller_actors.specs.Bodies.{vacant}
use Rattle.controller_actors.proofs.Seeing.{deferred_seen}
use Rattle.controller_actors.proofs.actors.Actors.deferred_at.Goals as goal

pub returns-in-Some : goal.returns-in-Some
returns-in-Some c =
    c.get.ensures ∙ deferred_seen c.args.plant.now c.args.me.0 c.args.self.now c.args.slot.0 c.in-Some.found.now (rw c.in-Some.is at c.slot.ensures) c.args.i

pub returns-in-None : goal.returns-in-None
returns-in-None c = deferred_seen c.args.plant.now c.args.me.0 c.args.self.now c.args.slot.0 vacant (rw c.in-None.is at c.slot.ensures) c.args.i
