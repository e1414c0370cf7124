use Rattle.law_names.proofs.Quiet.{quiet_registrations}
use Rattle.law_names.proofs.registrations.registrations_settle.Goals as goal

pub returns : goal.returns
returns g c = λ model t lines clear clear_lines points there xs end r quiet. quiet_registrations model clear t points lines clear_lines there xs end r quiet
