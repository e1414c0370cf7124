use Rattle.law_definitions.proofs.Places.{take_free}
use Rattle.law_definitions.proofs.bindings_take_free_places.Goals as goal

pub returns : goal.returns
returns c = take_free
