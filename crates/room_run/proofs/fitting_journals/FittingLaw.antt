-- The journals of a run of a plant that fits, over lines that fit.
use Rattle.std.proofs.Common.{◌≡◌, ℕ, zero, suc, ◌<◌, List, [], ◌∷◌, length, slice_get, Option, Some, None, refl, subst}
use Rattle.std.specs.Option.{option_map_or}
use Rattle.room_wiring.specs.declared.slot.Slot.{Slot}
use Rattle.room_wiring.specs.declared.tables.Tables.{Tables as Wired}
use Rattle.actor_duties.specs.Words.{owner_of}
use Rattle.chart_behaviour.specs.sends.Sends.{OwnersAreThere, is_ranked}
use Rattle.chart_behaviour.specs.Asked.{ClassesAsk}
use Rattle.chart_model.specs.Chart.{Chart}
use Rattle.chart_run.specs.declared.chart_tables.tables.Tables.{Tables}
use Rattle.chart_compile.specs.chart_parts.Compiled.{Compiles}
use Rattle.controller_actors.specs.declared.plant.Plant.{Plant}
use Rattle.law_definitions.specs.Imported.{ImportedSlotsHaveEndPorts}
use Rattle.law_models.proofs.settled_models.Models.{models_ranked}
use Rattle.law_models.specs.joined_ports.Protocols.{ModelsJoinOneProtocol, ModelsLinkOneProtocol}
use Rattle.law_models.specs.settled_models.Wirings.{ModelsHaveOwners, ModelsAreMutual}
use Rattle.law_charts.specs.Charts.{ShowsChart, ShowCharts}
use Rattle.law_runs.specs.run_journals.Outside.{LinesName}
use Rattle.law_runs.proofs.run_journals.InPlaceLaw.{in_place}
use Rattle.law_runs.proofs.run_journals.OutsideLaw.{fit_lines_name, environment_fits}
use Rattle.law_runs.proofs.run_journals.ReachingLaw.{reach}
use Rattle.law_runs.proofs.run_journals.TiedLaw.{tied}
use Rattle.room_run.specs.fitting_plants.Plants.{PlantFits}
use Rattle.room_run.specs.fitting_journals.Fitting.{FittingRunsAreInPlace}
use Rattle.room_run.proofs.fitting_journals.ActorsLaw.{actors_told}
use Rattle.room_run.proofs.fitting_journals.PlaceCounts.{places_counted}
use Rattle.room_run.proofs.fitting_journals.PlacesLaw.{Joins, places_named, outside_named, signals_named}

-- the owner of each slot is a controller
slots_owned : (t : Wired) → ((s : ℕ) → owner_of t s < length t.controllers) → OwnersAreThere t
unfolding owner_of
slots_owned t h s x there = subst (λ (o : Option Slot). option_map_or (λ (x : Slot). x.owner.0) o 0 < length t.controllers) there (h s)

-- the tables of each class are compiled from its chart, which sends at the six priorities
module _ (plant : Plant) (fits : PlantFits plant) where
  by_chart : (classes : List (Option Tables)) (charts : List (Option Chart)) → ShowCharts classes charts → (c : ℕ) (v : Tables) → slice_get classes c ≡ Some (Some v)
      → (chart : Chart) × (slice_get charts c ≡ Some (Some chart)) × Compiles v chart
  by_chart [] charts shown c v e = absurd cc
  by_chart (o ∷ os) [] shown c v e = absurd shown
  by_chart (o ∷ os) (q ∷ qs) shown (suc c) v e = by_chart os qs shown.1 c v e
  by_chart (o ∷ os) (q ∷ qs) shown zero v e = here q (subst (λ (z : Option Tables). ShowsChart z q) (let same : o ≡ Some v = cc in same) shown.0)
    where
      here : (q : Option Chart) → ShowsChart (Some v) q → (chart : Chart) × (slice_get (q ∷ qs) zero ≡ Some (Some chart)) × Compiles v chart
      here None s = absurd s
      here (Some chart) s = (chart, refl, s)

  ranked : ClassesAsk is_ranked plant.tables.items
  ranked c v at =
      let from = by_chart plant.tables.items fits.charts fits.tables c v at in
      models_ranked fits.model fits.charts fits.faultless c from.0 v from.1 from.2

pub fitting_in_place : ModelsHaveOwners → ModelsAreMutual → ModelsJoinOneProtocol → ModelsLinkOneProtocol → ImportedSlotsHaveEndPorts → FittingRunsAreInPlace
fitting_in_place owned joined alike linked ends plant lines fuel j fits fit run =
    let owners : OwnersAreThere plant.wiring = slots_owned plant.wiring (owned fits.model plant.wiring fits.keeps fits.wired fits.flawless) in
    let names : LinesName plant.wiring lines = fit_lines_name plant.wiring lines fit in
    let joins : Joins plant.wiring =
    record {
      partners = joined fits.model plant.wiring fits.keeps fits.wired fits.flawless;
      joined = alike fits.model plant.wiring fits.keeps fits.wired fits.flawless;
      linked = linked fits.model plant.wiring fits.keeps fits.wired;
      counted = places_counted ends fits.model plant.wiring fits.keeps fits.wired fits.flawless;
    } in
    record {
      tied = tied plant lines fuel j run;
      in_place = in_place plant lines fuel j run;
      receivers = reach plant lines owners (ranked plant fits) names fuel j run;
      environment = environment_fits plant lines owners names fuel j run;
      actors = actors_told plant fits lines fuel j run;
      places = places_named plant fits joins lines fit names fuel j run;
      outside_places = outside_named plant fits joins lines fit names fuel j run;
      signals = signals_named plant fits joins lines fit names fuel j run;
    }
