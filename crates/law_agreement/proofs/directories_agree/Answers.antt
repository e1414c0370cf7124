use Rattle.law_agreement.proofs.Agreeing.{runs_foretell, quiet_agree}
use Rattle.law_agreement.proofs.directories_agree.Goals as goal

pub returns : goal.returns
returns g c =
    record {
      runs = λ model t lines clear clear_lines xs end r. (runs_foretell model clear t lines clear_lines xs end r).foretold;
      quiet = λ model t lines clear clear_lines xs end r quiet.
          quiet_agree model clear t lines clear_lines end (runs_foretell model clear t lines clear_lines xs end r) quiet;
    }
