use Rattle.std.proofs.Common.{◌≡◌, List, take, ◌∙◌, subst}
use Rattle.inject_reader.specs.declared.inject_lines.accepted.Line.{Line}
use Rattle.model_run.specs.declared.fixed_lines.FixedLines.{FixedLines}
use Rattle.model_run.specs.part_source.Calls.{StoodQuiet}
use Rattle.model_run.specs.run_ends.Runs.{IsRun}
use Rattle.model_run.proofs.fixed_lines.FixedLaw.{ran_fixed, if_ok_both}
use Rattle.model_run.proofs.part_source.CallsLaw.{asked_keeps}
use Rattle.model_run.proofs.parallel_run.run_model.Goals as goal

pub returns : goal.returns
returns g c =
    let plant = c.args.plant.now in
    let start = c.new-source.result in
    let end = c.run_parts.new.source in
    if_ok_both c.run_parts.result
    (λ j ran asked.
    let kept : end.lines.now ≡ c.args.lines.now = asked_keeps (λ (s : FixedLines). s.lines.now) (λ s js. StoodQuiet plant (take s.to s.lines.now) c.args.fuel js) start end _ asked ∙ c.new-source.ensures.lines in
    subst (λ (z : List Line). IsRun plant z c.args.fuel j) kept (ran_fixed plant end.lines.now end.to c.args.fuel j end.ends ran))
    c.run_parts.ensures.ran c.run_parts.ensures.asked
