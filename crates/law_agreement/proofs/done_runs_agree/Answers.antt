use Rattle.law_agreement.proofs.Settling.{lives_agree}
use Rattle.law_agreement.proofs.done_runs_agree.Goals as goal

pub returns : goal.returns
returns g c = λ model t lines clear clear_lines consistent first others fuel journals left_over unposted w run done.
    lives_agree model clear t first lines clear_lines consistent others run.events w run.run done.quiet
