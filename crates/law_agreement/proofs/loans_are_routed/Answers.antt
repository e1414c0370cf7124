use Rattle.law_agreement.proofs.Lending.{runs_route}
use Rattle.law_agreement.proofs.loans_are_routed.Goals as goal

pub returns : goal.returns
returns g c = λ model t lines clear clear_lines local xs end r a b m there. runs_route model clear t local lines clear_lines xs end r a b m there
