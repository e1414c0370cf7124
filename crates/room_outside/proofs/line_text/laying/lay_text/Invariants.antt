use Rattle.std.proofs.Common.{◌≡◌, ◌+◌, ◌++◌, length, take}
use Rattle.room_outside.proofs.line_text.laying.lay_text.Given as goal

abbrev pub invariant-loop-rest : goal.invariant-loop-rest
invariant-loop-rest l =
    record {
      laid : take l.end l.piece ++ l.rest ≡ take l.at l.fn.piece ++ l.text;
      length : l.end + length l.rest ≡ l.at + length l.text;
    }

abbrev pub decreases-loop-rest : goal.decreases-loop-rest
decreases-loop-rest l = length l.rest
