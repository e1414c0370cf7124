use Rattle.std.proofs.Common.{◌≡◌, drop}
use Rattle.room_lexer.specs.Enclosed.{begins_string}
use Rattle.room_lexer.proofs.enclosed.begins_string.Given as goal

abbrev pub invariant-loop-b : goal.invariant-loop-b
invariant-loop-b l = begins_string (drop l.b-index l.bytes) ≡ begins_string l.bytes
