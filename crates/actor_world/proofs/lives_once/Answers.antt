use Rattle.actor_world.proofs.LivesLaw.{once_each, tells_each}
use Rattle.actor_world.proofs.RunsLaw.{runs_once, runs_tell, as_meant}
use Rattle.actor_world.proofs.lives_once.Goals as goal

pub returns : goal.returns
returns g c =
    record {
      replays = λ model t lines k modest before s r. once_each model t lines k modest before s r;
      runs = λ model t lines modest k below before x. runs_once model t lines modest k below before x;
      tells = λ model t lines k modest es s r x. tells_each model t lines k modest es s r x;
      runs_tell = λ model t lines modest xs end r k below x. runs_tell model t lines modest xs end r k below x;
      dispatches = λ model t lines k s next stamp from sent what ns x h d. as_meant model t lines k s next stamp from sent what ns x h d;
    }
