-- The plant of a text fits.
use Rattle.std.proofs.Common.{◌≡◌, ℕ, List, Option, sym, subst}
use Rattle.chart_model.specs.Chart.{Chart}
use Rattle.room_wiring.specs.declared.tables.Tables.{Tables}
use Rattle.binding_expand.specs.Wirings.{IsWiringOf}
use Rattle.controller_actors.specs.declared.plant.Plant.{Plant}
use Rattle.law_charts.specs.Charts.{ShowCharts}
use Rattle.room_run.specs.fitting_plants.Plants.{PlantFits}
use Rattle.room_run.specs.Models.{IsSoundText}
use Rattle.room_run.proofs.Names.{names_read}

pub text_fits : (text : List ℕ) (wiring : Tables) (charts : List (Option Chart)) (p : Plant) → IsSoundText text wiring charts → p.wiring ≡ wiring → ShowCharts p.tables.items charts
    → PlantFits p
text_fits text wiring charts p is wired shown = record {
  model = is.tree;
  names = names_read text is.tree is.read;
  keeps = is.sound.keeps;
  wired = subst (IsWiringOf is.tree) (sym wired) is.sound.wired.wired;
  flawless = is.sound.wired.flawless;
  charts = charts;
  faultless = is.sound.faultless;
  tables = shown;
}
