use Rattle.controller_actors.proofs.actor_slots.Occupying.{charted_begins}
use Rattle.controller_actors.proofs.actor_slots.occupant.Occupant.begin.Goals as goal

pub returns : goal.returns
returns c =
    rw c.in-Some.is
    (charted_begins c.args.who c.in-Some.tables.now c.in_ok-machine.machine c.in_ok-machine.effects c.state-state.result c.in_ok-machine.ensures.starts c.in_ok-machine.ensures.fits c.state-state.ensures)
