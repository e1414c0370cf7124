use Rattle.law_definitions.proofs.message_forms.Runs.{runs_form, runs_stand}
use Rattle.law_definitions.proofs.message_forms.messages_have_their_forms.Goals as goal

pub returns : goal.returns
returns g c =
    record {
      forms = λ model t lines clear clear_lines local xs end r a b m there. runs_form model clear t local lines clear_lines xs end r a b m there;
      alone = λ model t lines clear clear_lines xs end r. runs_stand model clear t lines clear_lines xs end r;
    }
