use Rattle.model_run.proofs.run_rounds.RoundLaw.{parts_round}
use Rattle.model_run.proofs.run_rounds.parts_are_a_round.Goals as goal

pub returns : goal.returns
returns g c = λ plant w after es logs answer parts. parts_round plant w after es logs answer parts
