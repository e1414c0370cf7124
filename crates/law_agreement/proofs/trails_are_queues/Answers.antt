use Rattle.law_agreement.proofs.Agreeing.{runs_foretell, trail_moves, quiet_trail}
use Rattle.law_agreement.proofs.trails_are_queues.Goals as goal

pub returns : goal.returns
returns g c =
    record {
      steps = λ model t lines clear clear_lines xs w r x next one a b.
          trail_moves model clear t lines clear_lines w (runs_foretell model clear t lines clear_lines xs w r) x next one a b;
      quiet = λ model t lines w quiet a b here there. quiet_trail model t lines w quiet a b here there;
    }
