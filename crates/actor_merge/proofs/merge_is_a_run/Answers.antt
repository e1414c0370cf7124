use Rattle.actor_merge.proofs.Law.{merged_run}
use Rattle.actor_merge.proofs.Extend.{round_merge}
use Rattle.actor_merge.proofs.merge_is_a_run.Goals as goal

pub returns : goal.returns
returns g c =
    record {
      exists = λ plant w journals after round. round_merge plant w journals after round;
      run = λ plant w journals after merge round is. merged_run plant w journals after merge round is;
    }
