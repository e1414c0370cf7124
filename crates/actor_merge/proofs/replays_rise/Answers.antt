use Rattle.actor_merge.proofs.Steps.{replays_stamped}
use Rattle.actor_merge.proofs.Extend.{replays_rise}
use Rattle.actor_merge.proofs.replays_rise.Goals as goal

pub returns : goal.returns
returns g c = λ plant k s es end h. ((replays_rise plant k s es end h).0, replays_stamped plant k s es end h)
