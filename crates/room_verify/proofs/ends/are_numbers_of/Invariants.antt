use Rattle.std.proofs.Common.{◌≡◌, map, take, length}
use Rattle.inject_reader.specs.declared.inject_lines.accepted.Line.{Line}
use Rattle.room_verify.proofs.ends.are_numbers_of.Given as goal

abbrev pub invariant-loop-i : goal.invariant-loop-i
invariant-loop-i l = record {
  same : take l.i l.numbers ≡ map (λ (x : Line). x.number) (take l.i l.lines);
  end : l.i-end ≡ length l.lines;
}
