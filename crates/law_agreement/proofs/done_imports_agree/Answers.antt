use Rattle.law_agreement.proofs.Settling.{lawful_imports}
use Rattle.law_agreement.proofs.done_imports_agree.Goals as goal

pub returns : goal.returns
returns g c = λ model t lines clear clear_lines local there contained fuel journals left_over unposted w run done.
    lawful_imports model clear t lines clear_lines local there contained run.events w run.run done.quiet
