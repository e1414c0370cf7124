use Rattle.std.proofs.Common.{◌≡◌, ◌++◌, map, drop, take}
use Rattle.action_program.specs.Numbered.{argument_view}
use Rattle.action_program.specs.Meaning.{payload_of, argument_notes}
use Rattle.action_program.proofs.running.payload.Given as goal

-- the numbers so far, and the notes that are missing
abbrev pub invariant-loop-argument : goal.invariant-loop-argument
invariant-loop-argument l =
    (l.payload ≡ payload_of (map argument_view (take l.argument-index l.arguments)) l.vars l.at)
    × (l.notes ++ argument_notes (map argument_view (drop l.argument-index l.arguments)) l.vars l.at ≡ l.fn.notes ++ argument_notes (map argument_view l.arguments) l.vars l.at)
