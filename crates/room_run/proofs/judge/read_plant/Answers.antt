use Rattle.std.proofs.Common.{map, option_map, subst}
use Rattle.chart_trees.specs.chart_graphs.Views.{chart_view}
use Rattle.law_charts.specs.Charts.{ShowCharts}
use Rattle.room_run.specs.Models.{no_memory}
use Rattle.room_run.proofs.JudgeLemmas.{plant_parts}
use Rattle.room_run.proofs.settled.Fitting.{text_fits}
use Rattle.room_run.proofs.judge.read_plant.Goals as goal

pub plant_of-requires-clause-plant : goal.plant_of-requires-clause-plant
plant_of-requires-clause-plant c = λ tables shown.
    plant_parts c.args.text.now c.in-Ok.sound.wiring (map (option_map chart_view) c.in-Ok.sound.charts.items) tables c.in-Ok.ensures.ok
    (subst (λ charts. ShowCharts tables (map (option_map chart_view) charts)) c.deref.ensures.value shown)

pub returns-in-Ok-plant_of-clause-fits : goal.returns-in-Ok-plant_of-clause-fits
returns-in-Ok-plant_of-clause-fits c =
    let shown = subst (λ charts. ShowCharts c.in-Ok-plant_of.plant.tables.items (map (option_map chart_view) charts)) c.deref.ensures.value c.in-Ok-plant_of.ensures.tables in
    text_fits c.args.text.now c.in-Ok.sound.wiring (map (option_map chart_view) c.in-Ok.sound.charts.items) c.in-Ok-plant_of.plant c.in-Ok.ensures.ok c.in-Ok-plant_of.ensures.wiring shown

pub returns-clause-err : goal.returns-clause-err
returns-clause-err c = no_memory
