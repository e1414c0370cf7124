use Rattle.law_models.proofs.wiring_laws.read_wirings.States.{read_well_named}
use Rattle.law_models.proofs.wiring_laws.read_wirings.read_wirings_are_well_named.Goals as goal

pub returns : goal.returns
returns c = λ m t keeps h d is. read_well_named m t keeps h d is
