use Rattle.actor_world.proofs.world_laws.Losing.{downs_tell}
use Rattle.actor_world.proofs.world_laws.downs_tell_lost.Goals as goal

pub returns : goal.returns
returns g c = λ model t lines k modest tells before s next stamp from sent what ns r d x n there.
    downs_tell model t lines k modest tells before s next stamp from sent what ns r d x n there
