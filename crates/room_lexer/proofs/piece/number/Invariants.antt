use Rattle.std.proofs.Common.{◌≡◌, ◌≤◌, drop}
use Rattle.room_lexer.specs.Front.{value_from, value, max_number}
use Rattle.room_lexer.proofs.piece.number.Given as goal

abbrev pub invariant-loop-d : goal.invariant-loop-d
invariant-loop-d l = record {
  so_far : value_from l.n (drop l.d-index l.digits) ≡ value l.digits;
  fits : l.n ≤ max_number;
}
