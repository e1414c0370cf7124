-- The text of each run tells it, and what it fetches fits.
use Rattle.chart_behaviour.proofs.Charts.{asks_only}
use Rattle.chart_behaviour.specs.sends.Sends.{is_ranked}
use Rattle.controller_actors.specs.Plants.{model_of}
use Rattle.controller_actors.specs.declared.plant.Plant.{Plant}
use Rattle.chart_behaviour.specs.Asked.{AsksOnly}
use Rattle.law_runs.specs.run_texts.Texts.{TextsTellRuns}
use Rattle.law_runs.specs.run_texts.Fetches.{RunsFetchWhatFits}
use Rattle.law_runs.proofs.PromisesLaw.{promises}
use Rattle.law_runs.proofs.run_texts.Party.{is_party}
use Rattle.law_runs.proofs.run_texts.Priorities.{at_six}
use Rattle.law_runs.proofs.run_texts.SameRuns.{one_journal}

-- the actors of a plant send at the six priorities
ranked : (plant : Plant) → AsksOnly is_ranked (model_of plant)
ranked plant = asks_only plant.wiring plant.tables.items is_ranked plant.fits.ranked

pub texts_tell : TextsTellRuns
texts_tell plant lines consistent named fit fuel j run short other_fuel other other_run one_text =
    let asks = ranked plant in
    one_journal plant lines other_fuel fuel other j other_run run consistent named
    (at_six plant lines other_fuel other other_run asks fit) (at_six plant lines fuel j run asks fit) short one_text

pub fetches_fit : RunsFetchWhatFits
fetches_fit plant lines fit fuel j run c m h = record {
  from = is_party plant lines fuel j run c m h;
  to = ((promises plant lines fuel j run).mail.fetched_was_posted c m h).0;
  priority = at_six plant lines fuel j run (ranked plant) fit c m h;
}
