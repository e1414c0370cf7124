-- Where a run of a plant that fits is done, all controllers agree.
use Rattle.std.proofs.Common.{◌≡◌, ℕ, true, List}
use Rattle.law_models.proofs.wiring_laws.wiring_order.Ordered.{model_depth_first}
use Rattle.journal.specs.declared.entry.Journals.{Journals}
use Rattle.inject_reader.specs.declared.inject_lines.accepted.Line.{Line}
use Rattle.inject_reader.specs.Fitting.{LinesFit}
use Rattle.actor_world.specs.Journals.{lines_of}
use Rattle.controller_actors.specs.declared.plant.Plant.{Plant}
use Rattle.model_run.specs.part_posts.Items.{items_of}
use Rattle.model_run.specs.run_ends.Runs.{journal_of, IsRun}
use Rattle.room_run.specs.Agreement.{AllAgree}
use Rattle.room_run.specs.fitting_plants.Plants.{PlantFits}
use Rattle.law_models.proofs.settled_models.Runs.{model_agrees}
use Rattle.law_models.proofs.settled_models.Settled.{model_agreed}
use Rattle.room_run.proofs.settled.Compiled.{all_compiled}
use Rattle.room_run.proofs.fitting_plants.Lines.{lines_open}

pub runs_agree : (plant : Plant) (lines : List Line) (fuel : ℕ) (j : Journals) → PlantFits plant → LinesFit plant.wiring lines
    → (run : IsRun plant lines fuel j) → j.done ≡ true → AllAgree plant.wiring run.world
runs_agree plant lines fuel j fits fit run done =
    let compiled = all_compiled plant.tables.items fits.charts fits.tables in
    let open_lines = lines_open plant.wiring lines fit in
    let order = model_depth_first fits.model plant.wiring fits.wired.slots in
    record {
      lives = model_agrees fits.model plant.wiring fits.charts plant.tables.items (lines_of (items_of plant.wiring lines)) fits.keeps fits.wired fits.flawless fits.faultless compiled open_lines order
          fuel (journal_of j) j.left j.unposted run.world run.lawful (run.ended.is_done done);
      agreed = model_agreed fits.model plant.wiring fits.charts plant.tables.items (lines_of (items_of plant.wiring lines)) fits.keeps fits.wired fits.flawless fits.faultless compiled open_lines order
          fuel (journal_of j) j.left j.unposted run.world run.lawful (run.ended.is_done done);
    }
