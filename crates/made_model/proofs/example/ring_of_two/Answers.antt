use Rattle.std.proofs.Common.{refl}
use Rattle.std.specs.Fmt.{digits}
use Rattle.made_model.specs.Texts.{rows, model_text, injections_text}
use Rattle.made_model.proofs.example.ring_of_two.Goals as goal

pub returns : goal.returns
unfolding digits rows model_text injections_text
returns c = (refl, refl)
