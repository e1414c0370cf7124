use Rattle.law_agreement.proofs.Holding.{quiet_imports}
use Rattle.law_agreement.proofs.imports_agree.Goals as goal

pub returns : goal.returns
returns g c = λ model t lines clear clear_lines local there contained xs end r quiet. quiet_imports model clear t lines clear_lines local contained xs end r there quiet
