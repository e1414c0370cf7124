use Rattle.binding_expand.proofs.one_wiring.Same.{same_wiring}
use Rattle.binding_expand.proofs.one_wiring.wirings_are_one.Goals as goal

pub returns : goal.returns
returns c = λ m t u a b. same_wiring m t u a b
