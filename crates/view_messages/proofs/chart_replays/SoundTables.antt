-- The tables of a plant are sound.
use Rattle.std.proofs.Common.{◌≡◌, ℕ, Some, slice_get}
use Rattle.chart_run.specs.chart_tables.Tables.{IsSound}
use Rattle.chart_run.specs.declared.chart_tables.tables.Tables.{Tables}
use Rattle.controller_actors.specs.declared.plant.Plant.{Plant}

pub tables_are_sound : (p : Plant) (class : ℕ) (v : Tables) → slice_get p.tables.items class ≡ Some (Some v) → IsSound v
tables_are_sound p class v e = p.fits.sound class v e
