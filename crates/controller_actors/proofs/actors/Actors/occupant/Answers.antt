use Rattle.std.proofs.Common.{refl, sym, ◌∙◌}
use Rattle.controller_actors.specs.Bodies.{lives_of}
use Rattle.controller_actors.proofs.Occupants.{found_last}
use Rattle.controller_actors.proofs.actors.Actors.occupant.Goals as goal

pub returns-in-Some : goal.returns-in-Some
returns-in-Some c =
    let t = c.args.plant.now.wiring in
    let own = sym c.is_own.ensures ∙ c.if-not-is_own.false in (
      refl,
      found_last t c.args.me.0 (lives_of c.args.self.now) c.args.slot c.in-Some.generation own (sym c.live.ensures ∙ c.in-Some.is),
      own,
    )
