use Rattle.law_agreement.proofs.Fitting.{runs_fit}
use Rattle.law_agreement.proofs.plugs_fit.Goals as goal

pub returns : goal.returns
returns g c = λ model t lines clear clear_lines xs end r n. runs_fit t model clear lines clear_lines xs end r n
