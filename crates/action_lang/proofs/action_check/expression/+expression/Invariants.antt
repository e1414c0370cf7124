use Rattle.std.proofs.Common.{◌≡◌, map, drop}
use Rattle.action_program.specs.Named as named
use Rattle.action_program.specs.Numbered as numbered
use Rattle.action_lang.specs.action_check.Faults.{steps_fault}
use Rattle.action_lang.specs.action_check.Numbering.{numbered_steps}
use Rattle.action_lang.proofs.action_check.Built.{steps_then}
use Rattle.action_lang.proofs.action_check.expression.+expression.Given as goal

-- the rest has the first fault, and completes what was built
abbrev pub invariant-steps-loop-step : goal.invariant-steps-loop-step
invariant-steps-loop-step l =
    (steps_fault l.scope (named.steps_of (map named.step_view (drop l.step-index l.steps.items))) ≡ steps_fault l.scope (named.steps_of (map named.step_view l.steps.items)))
    × (steps_then (map numbered.step_view l.found.items) (numbered_steps l.scope (named.steps_of (map named.step_view (drop l.step-index l.steps.items)))) ≡ numbered_steps l.scope (named.steps_of (map named.step_view l.steps.items)))
