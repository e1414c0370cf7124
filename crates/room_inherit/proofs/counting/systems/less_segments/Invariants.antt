use Rattle.std.proofs.Common.{◌≡◌, ◌-◌, length, drop}
use Rattle.room_ast.specs.Tokens.{each, slash_segment}
use Rattle.room_inherit.proofs.counting.systems.less_segments.Given as goal

-- what is left once the rest is taken away
abbrev pub invariant-loop-segment : goal.invariant-loop-segment
invariant-loop-segment l = l.left - length (each slash_segment (drop l.segment-index l.segments)) ≡ l.fn.left - length (each slash_segment l.segments)
