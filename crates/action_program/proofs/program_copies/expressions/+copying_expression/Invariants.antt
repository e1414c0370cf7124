use Rattle.std.proofs.Common.{◌≡◌, map, take}
use Rattle.action_program.specs.Numbered.{step_view}
use Rattle.action_program.proofs.program_copies.expressions.+copying_expression.Given as goal

abbrev pub invariant-copy_steps-loop-step : goal.invariant-copy_steps-loop-step
invariant-copy_steps-loop-step l = map step_view l.copies.items ≡ map step_view (take l.step-index l.steps.items)
