use Rattle.law_names.proofs.Forms.{runs_keep_forms}
use Rattle.law_names.proofs.RowRuns.{runs_rowed, runs_keep_rows}
use Rattle.law_names.proofs.registrations.registrations_are_in_rows.Goals as goal

pub returns : goal.returns
returns g c =
    record {
      forms = λ model t lines clear clear_lines xs end r a b m there. runs_keep_forms model clear t lines clear_lines xs end r a b m there;
      rows = λ model t lines clear clear_lines points xs end r e. runs_keep_rows model clear t points lines clear_lines xs end r e;
      living = λ model t lines clear clear_lines points xs end r n s p. (runs_rowed model clear t points lines clear_lines xs end r).here n s p;
    }
