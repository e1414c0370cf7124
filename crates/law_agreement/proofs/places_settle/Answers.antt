use Rattle.law_agreement.proofs.Waiting.{places_await, quiet_places}
use Rattle.law_agreement.proofs.places_settle.Goals as goal

pub returns : goal.returns
returns g c =
    record {
      runs = λ model t lines clear clear_lines xs end r. places_await model clear t lines clear_lines xs end r;
      quiet = λ model t lines clear clear_lines there xs end r quiet. quiet_places model clear t lines clear_lines there xs end r quiet;
    }
