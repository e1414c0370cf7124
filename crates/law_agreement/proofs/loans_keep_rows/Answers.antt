use Rattle.law_agreement.proofs.Standing.{runs_stand}
use Rattle.law_agreement.proofs.Holding.{once}
use Rattle.law_agreement.proofs.loans_keep_rows.Goals as goal

pub returns : goal.returns
returns g c =
    record {
      rows = λ model t lines clear clear_lines local xs end r k i h imported part home.
          runs_stand model clear t local lines clear_lines k i h imported part home xs end r;
      once = λ model t lines clear clear_lines local contained xs end r i h. once model clear t lines clear_lines local contained xs end r i h;
    }
