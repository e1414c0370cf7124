use Rattle.room_ast.specs.Trees.{model_view}
use Rattle.room_run.specs.Reading.{no_memory_for_charts}
use Rattle.room_run.proofs.JudgeLemmas.{chart_told}
use Rattle.room_run.proofs.judge.keep_charts.Goals as goal

pub returns-in-Err-Chart-clause-err : goal.returns-in-Err-Chart-clause-err
returns-in-Err-Chart-clause-err c =
    chart_told (model_view c.args.checked.now.model.now) c.in-Err-Chart.class c.in-Err-Chart.fault c.in-Err-Chart.field-0 c.in-Err-Chart.ensures.reads (cc)

pub returns-in-Err-Memory-clause-err : goal.returns-in-Err-Memory-clause-err
returns-in-Err-Memory-clause-err c = no_memory_for_charts
