use Rattle.law_models.proofs.class_laws.Models.{actors_can}
use Rattle.law_models.proofs.class_laws.actors_ask_what_they_can.Goals as goal

pub returns : goal.returns
returns c = actors_can
