use Rattle.law_agreement.proofs.Parting.{runs_whole, containers_live}
use Rattle.law_agreement.proofs.containers_live.Goals as goal

pub returns : goal.returns
returns g c = λ model t lines clear clear_lines first others xs end r s k opt is live.
    containers_live model clear t first lines clear_lines others end (runs_whole model clear t first lines clear_lines xs end r) s k opt is live
