use Rattle.std.proofs.Common.{◌≡◌, ◌+◌, ◌≤◌, length}
use Rattle.std.specs.Str.Lines.{lines}
use Rattle.inject_reader.proofs.lines.line_count.Given as goal

abbrev pub invariant-loop-behind : goal.invariant-loop-behind
invariant-loop-behind l = record {
  counted : l.count + length (lines l.rest) ≡ length (lines l.bytes);
  few : l.count + length l.rest ≤ length l.bytes;
}

abbrev pub decreases-loop-behind : goal.decreases-loop-behind
decreases-loop-behind l = length l.rest
