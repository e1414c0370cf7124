use Rattle.law_names.proofs.Unjoined.{runs_unnamed}
use Rattle.law_names.proofs.registrations.joined_users_have_no_name.Goals as goal

pub returns : goal.returns
returns g c = λ model t lines clear clear_lines xs end r. runs_unnamed model clear t lines xs end r
