use Rattle.actor_world.proofs.world_laws.Adding.{adds_up}
use Rattle.actor_world.proofs.world_laws.Owning.{kept_by_deferrer}
use Rattle.actor_world.proofs.world_laws.Standing.{run_adds, run_stands}
use Rattle.actor_world.proofs.world_laws.stands_once.Goals as goal

pub returns : goal.returns
returns g c =
    record {
      replays = λ model t lines k modest tells es end r. adds_up model t lines k modest tells es end r;
      runs = λ model t lines modest tells xs end r.
          ((λ k below. run_adds model t lines modest tells xs end r k below), run_stands model t lines modest tells xs end r);
      keepers = λ model t lines k modest tells es end r x live m. kept_by_deferrer model t lines k modest tells es end r x live m;
    }
