use Rattle.law_models.proofs.wiring_laws.chart_state_names.Models.{sound_well_named}
use Rattle.law_models.proofs.wiring_laws.chart_state_names.sound_wirings_are_well_named.Goals as goal

pub returns : goal.returns
returns c = λ m t charts keeps names h is. sound_well_named m t charts keeps names h is
