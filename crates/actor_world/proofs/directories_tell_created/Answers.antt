use Rattle.actor_world.proofs.DirectoriesLaw.{tell_created}
use Rattle.actor_world.proofs.directories_tell_created.Goals as goal

pub returns : goal.returns
returns g c = λ model t lines modest clear clear_lines xs end r d s n below tells some.
    tell_created model modest clear t lines clear_lines xs end r d s n below tells some
