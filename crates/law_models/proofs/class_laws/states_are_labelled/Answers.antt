use Rattle.law_models.proofs.class_laws.Labels.{labelled}
use Rattle.law_models.proofs.class_laws.states_are_labelled.Goals as goal

pub returns : goal.returns
returns c = labelled
