use Rattle.law_agreement.proofs.Keeping.{runs_lend_so, living_alone}
use Rattle.law_agreement.proofs.loans_are_of_the_living.Goals as goal

pub returns : goal.returns
returns g c = λ model t lines clear clear_lines xs end r n. living_alone model clear t lines (end.controllers n).body.frame (runs_lend_so model clear t lines xs end r n)
