-- A run over tables is a run over charts.
use Rattle.std.proofs.Common.{ℕ, List, Option}
use Rattle.journal.specs.declared.entry.Journals.{Journals}
use Rattle.inject_reader.specs.declared.inject_lines.accepted.Line.{Line}
use Rattle.actor_world.specs.Journals.{lines_of}
use Rattle.chart_model.specs.Chart.{Chart}
use Rattle.chart_behaviour.specs.ModelCharts.{behaviour_of}
use Rattle.controller_actors.specs.declared.plant.Plant.{Plant}
use Rattle.model_run.specs.part_posts.Items.{items_of}
use Rattle.model_run.specs.run_ends.Runs.{journal_of, IsRun}
use Rattle.law_charts.specs.Charts.{behaviour_by_charts, ShowCharts, IsRunByCharts}
use Rattle.law_charts.proofs.ChartsAlike.{AreNamed, charts_alike}
use Rattle.law_charts.proofs.RunsLaw.{same_run}

pub by_charts : (plant : Plant) (charts : List (Option Chart)) (lines : List Line) (fuel : ℕ) (j : Journals)
    → ShowCharts plant.tables.items charts → IsRun plant lines fuel j → IsRunByCharts plant.wiring charts lines fuel j
by_charts plant charts lines fuel j stand run = record {
  count = run.count;
  run = same_run (AreNamed plant.wiring plant.tables.items charts) (behaviour_of plant.wiring plant.tables.items) (behaviour_by_charts plant.wiring charts)
      (charts_alike plant.wiring plant.tables.items charts stand)
      plant.wiring (lines_of (items_of plant.wiring lines)) (items_of plant.wiring lines) fuel (journal_of j) j.left j.unposted j.done
      (record { world = run.world; lawful = run.lawful; ended = run.ended });
  prompt = run.prompt;
}
