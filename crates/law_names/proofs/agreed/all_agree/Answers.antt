use Rattle.law_names.proofs.AllAgreed.{quiet_agreed, lawful_agreed}
use Rattle.law_names.proofs.agreed.all_agree.Goals as goal

pub returns : goal.returns
returns g c =
    record {
      quiet = λ model t lines h xs end r quiet. quiet_agreed model t lines h xs end r quiet;
      done = λ model t lines h fuel journals left_over unposted w run done. lawful_agreed model t lines h run.events w run.run done.quiet;
    }
