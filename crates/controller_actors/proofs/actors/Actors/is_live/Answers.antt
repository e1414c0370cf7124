use Rattle.std.proofs.Common.{◌∙◌}
use Rattle.controller_actors.specs.Bodies.{lives_of}
use Rattle.controller_actors.proofs.Naming.{nobody_lives, occupant_lives}
use Rattle.controller_actors.proofs.actors.Actors.is_live.Goals as goal

pub returns-in-Some : goal.returns-in-Some
returns-in-Some c =
    let found = c.in-Some.ensures in
    c.eq.ensures ∙ occupant_lives c.args.plant.now.wiring c.args.me.0 (lives_of c.args.self.now) c.args.who c.in-Some.occupant found.0 found.1 found.2

pub returns-in-None : goal.returns-in-None
returns-in-None c = nobody_lives c.args.plant.now.wiring c.args.me.0 (lives_of c.args.self.now) c.args.who c.in-None.ensures
