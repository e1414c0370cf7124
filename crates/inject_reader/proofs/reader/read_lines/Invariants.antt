use Rattle.std.proofs.Common.{◌≡◌, ◌+◌, ◌≤◌, length, Ok}
use Rattle.std.specs.Str.Lines.{lines}
use Rattle.inject_reader.specs.Answer.{joined, entries_from}
use Rattle.inject_reader.proofs.reader.read_lines.Given as goal

abbrev pub invariant-loop-text : goal.invariant-loop-text
invariant-loop-text l = record {
  read : joined (Ok l.found.items) (entries_from l.advances l.directory l.number (lines l.rest)) ≡ entries_from l.advances l.directory 1 (lines l.bytes);
  few : l.number + length (lines l.rest) ≤ 10001;
}

abbrev pub decreases-loop-text : goal.decreases-loop-text
decreases-loop-text l = length l.rest
