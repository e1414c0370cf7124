use Rattle.std.proofs.Common.{◌≡◌, ◌++◌, map, drop}
use Rattle.action_program.specs.Numbered.{steps_of, step_view}
use Rattle.action_program.specs.Meaning.{value_behind, notes_behind}
use Rattle.action_program.proofs.evaluation.+value.Given as goal

-- what is left of the chain gives the whole chain's value, and the notes that are missing
abbrev pub invariant-value_behind-loop-step : goal.invariant-value_behind-loop-step
invariant-value_behind-loop-step l =
    (value_behind (steps_of (map step_view (drop l.step-index l.steps.items))) l.vars l.at l.x ≡ value_behind (steps_of (map step_view l.steps.items)) l.vars l.at l.first)
    × (l.notes ++ notes_behind (steps_of (map step_view (drop l.step-index l.steps.items))) l.vars l.at ≡ l.fn.notes ++ notes_behind (steps_of (map step_view l.steps.items)) l.vars l.at)
