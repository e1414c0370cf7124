use Rattle.law_definitions.proofs.Imported.{imported_fit}
use Rattle.law_definitions.proofs.imported_slots_have_end_ports.Goals as goal

pub returns : goal.returns
returns c = imported_fit
