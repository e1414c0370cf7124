use Rattle.actor_merge.proofs.Rounds.{start_history, history_more, history_lawful}
use Rattle.actor_merge.proofs.history_goes_on.Goals as goal

pub returns : goal.returns
returns g c =
    record {
      start = λ plant. start_history plant;
      goes_on = λ plant journals more w after h round. history_more plant journals more w after h round;
      lawful = λ plant journals w h. history_lawful plant journals w h;
    }
