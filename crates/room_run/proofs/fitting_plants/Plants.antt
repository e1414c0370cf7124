-- What is so of each plant that fits.
use Rattle.std.proofs.Common.{◌≡◌, ℕ, zero, suc, List, [], ◌∷◌, Option, Some, None, subst, slice_get}
use Rattle.std.specs.Prelude.{All}
use Rattle.std.proofs.lemmas.List.Elements.{All-head, All-tail}
use Rattle.std.proofs.lemmas.Option.{same_Some}
use Rattle.room_wiring.specs.WellNamed.{IsWellNamed, IsWellNamedClass}
use Rattle.room_wiring.specs.declared.names.ClassNames.{ClassNames}
use Rattle.wiring_plan.specs.wiring_classes.Classes.{classes_of}
use Rattle.chart_model.specs.Chart.{Chart}
use Rattle.chart_run.specs.chart_tables.Tables.{IsSound}
use Rattle.chart_run.specs.declared.chart_tables.tables.Tables.{Tables}
use Rattle.chart_behaviour.proofs.Charts.{are_modest, are_open}
use Rattle.chart_behaviour.proofs.chart_defers.Defers.{tell_defers}
use Rattle.chart_behaviour.specs.Asked.{is_open}
use Rattle.chart_behaviour.specs.chart_asks.Asking.{TablesAsk}
use Rattle.chart_compile.specs.chart_parts.Compiled.{Compiles}
use Rattle.law_models.specs.class_laws.Commands.{AsksWhatItCan}
use Rattle.law_models.specs.class_laws.Laws.{HasLabelsOf}
use Rattle.law_models.specs.class_laws.Programs.{TablesName}
use Rattle.law_models.proofs.class_laws.Labels.{labelled}
use Rattle.law_models.proofs.class_laws.Models.{tables_name, actors_can, model_open}
use Rattle.law_models.proofs.wiring_laws.chart_state_names.Models.{sound_well_named}
use Rattle.law_models.proofs.wiring_laws.wiring_order.Ordered.{model_depth_first}
use Rattle.law_models.proofs.wiring_laws.ports_numbered.Numbered.{checked_numbered}
use Rattle.controller_actors.specs.declared.plant.Plant.{Plant}
use Rattle.law_charts.specs.Charts.{ShowsChart}
use Rattle.room_run.specs.fitting_plants.Plants.{PlantFits, HasLabels, IsFitting, PlantsFit}
use Rattle.room_run.proofs.fitting_plants.Tables.{ShownAt, shown_at}

class_named : (cs : List ClassNames) → All IsWellNamedClass cs → (k : ℕ) (c : ClassNames) → slice_get cs k ≡ Some c → IsWellNamedClass c
class_named [] h k c e = absurd cc
class_named (d ∷ ds) h zero c e = subst IsWellNamedClass (same_Some d c e) (All-head IsWellNamedClass d ds h)
class_named (d ∷ ds) h (suc k) c e = class_named ds (All-tail IsWellNamedClass d ds h) k c e

module _ (plant : Plant) (fits : PlantFits plant) where
  well_named : IsWellNamed plant.wiring
  well_named = sound_well_named fits.model plant.wiring fits.charts fits.keeps fits.names fits.faultless fits.wired

  shown : (k : ℕ) (v : Option Tables) → slice_get plant.tables.items k ≡ Some v → ShownAt fits.charts k v
  shown k v at = shown_at plant.tables.items fits.charts fits.tables k v at

  wired_class : (k : ℕ) (c : ClassNames) → slice_get plant.wiring.classes k ≡ Some c → slice_get (classes_of fits.model) k ≡ Some c
  wired_class k c at = subst (λ cs. slice_get cs k ≡ Some c) fits.wired.classes at

  -- the chart from which the tables of a class are compiled
  record CompiledFrom (k : ℕ) (v : Tables) : Type 0 where
    chart : Chart
    is : slice_get fits.charts k ≡ Some (Some chart)
    compiles : Compiles v chart

  compiled : (k : ℕ) (v : Tables) → slice_get plant.tables.items k ≡ Some (Some v) → CompiledFrom k v
  compiled k v at = by_chart (shown k (Some v) at).chart (shown k (Some v) at).is (shown k (Some v) at).shows
    where
      by_chart : (o : Option Chart) → slice_get fits.charts k ≡ Some o → ShowsChart (Some v) o → CompiledFrom k v
      by_chart None is shows = absurd shows
      by_chart (Some chart) is shows = record { chart = chart; is = is; compiles = shows }

  sound : (k : ℕ) (v : Tables) → slice_get plant.tables.items k ≡ Some (Some v) → IsSound v
  sound k v at = (compiled k v at).compiles.sound

  name_what_is_there : (k : ℕ) (c : ClassNames) (v : Tables) → slice_get plant.wiring.classes k ≡ Some c → slice_get plant.tables.items k ≡ Some (Some v) → TablesName c v
  name_what_is_there k c v there at =
      let from = compiled k v at in tables_name fits.model fits.charts fits.faultless k c from.chart v (wired_class k c there) from.is from.compiles

  labels : (k : ℕ) (c : ClassNames) (v : Option Tables) → slice_get plant.wiring.classes k ≡ Some c → slice_get plant.tables.items k ≡ Some v → HasLabels c v
  labels k c v there at = by_both v (shown k v at).chart (shown k v at).shows
      (labelled fits.model fits.charts fits.faultless k c (shown k v at).chart (wired_class k c there) (shown k v at).is (class_named plant.wiring.classes well_named.classes k c there))
    where
      by_both : (u : Option Tables) (o : Option Chart) → ShowsChart u o → HasLabelsOf c o → HasLabels c u
      by_both None None shows has = has
      by_both None (Some chart) shows has = absurd shows
      by_both (Some w) None shows has = absurd shows
      by_both (Some w) (Some chart) shows has = (chart, shows, has)

  ask_what_they_can : (k : ℕ) (c : ClassNames) (v : Tables) → slice_get plant.wiring.classes k ≡ Some c → slice_get plant.tables.items k ≡ Some (Some v) → AsksWhatItCan c v
  ask_what_they_can k c v there at =
      let from = compiled k v at in actors_can fits.model fits.charts fits.faultless k c from.chart v (wired_class k c there) from.is from.compiles

  opens : (k : ℕ) (v : Tables) → slice_get plant.tables.items k ≡ Some (Some v) → TablesAsk is_open v
  opens k v at = let from = compiled k v at in model_open fits.model fits.charts fits.faultless k from.chart v from.is from.compiles

  pub fitting : IsFitting plant
  fitting = record {
    well_named = well_named;
    depth_first = model_depth_first fits.model plant.wiring fits.wired.slots;
    ports_numbered = checked_numbered fits.model plant.wiring fits.keeps fits.wired.classes;
    sound = sound;
    names_what_is_there = name_what_is_there;
    asks_what_it_can = ask_what_they_can;
    labelled = labels;
    sends_openly = are_open plant.wiring plant.tables.items opens;
    modest = are_modest plant.wiring plant.tables.items;
    tells_defers = tell_defers plant.wiring plant.tables.items;
  }

pub plants_fit : PlantsFit
plants_fit plant fits = fitting plant fits
