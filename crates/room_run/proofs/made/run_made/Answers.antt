use Rattle.std.proofs.Common.{List, ◌∙◌, subst}
use Rattle.inject_reader.specs.declared.inject_lines.accepted.Line.{Line}
use Rattle.room_run.specs.Words.{usual_fuel}
use Rattle.room_run.specs.Finished.{HasRun}
use Rattle.room_run.proofs.MadeLemmas.{made_refused, made_lines_refused, summarized}
use Rattle.room_run.proofs.made.run_made.Goals as goal

pub returns-in-Err-clause-err : goal.returns-in-Err-clause-err
returns-in-Err-clause-err g c = made_refused c.args.actors c.as_slice.result.now c.in-Err.why (c.as_slice.ensures.value ∙ c.in-Ok.ensures.model) c.in-Err.ensures.err

pub returns-in-Err-made_lines-clause-err : goal.returns-in-Err-made_lines-clause-err
returns-in-Err-made_lines-clause-err g c =
    made_lines_refused c.args.actors c.as_slice.result.now c.as_slice-2.result.now c.in-Ok-made_plant.plant c.in-Err-made_lines.why (c.as_slice.ensures.value ∙ c.in-Ok.ensures.model) (c.as_slice-2.ensures.value ∙ c.in-Ok.ensures.injections)
    c.in-Ok-made_plant.ensures.ok c.in-Err-made_lines.ensures.err

pub returns-in-Ok-run_over-clause-ok : goal.returns-in-Ok-run_over-clause-ok
returns-in-Ok-run_over-clause-ok g c =
    let plant = c.in-Ok-made_plant.plant in
    let lines = c.in-Ok-made_lines.lines.items in
    let run = subst (λ (ls : List Line). HasRun plant ls usual_fuel c.in-Ok-run_over.journals) c.as_slice-3.ensures.value c.in-Ok-run_over.ensures in
    summarized c.args.actors c.as_slice.result.now c.as_slice-2.result.now plant lines c.in-Ok-run_over.journals c.counts_of.result
    (c.as_slice.ensures.value ∙ c.in-Ok.ensures.model) (c.as_slice-2.ensures.value ∙ c.in-Ok.ensures.injections) c.in-Ok-made_plant.ensures.ok c.in-Ok-made_lines.ensures.ok run c.counts_of.ensures
