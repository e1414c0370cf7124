use Rattle.std.proofs.Common.{◌≡◌, ◌+◌, drop}
use Rattle.std.specs.Prelude.{option_map}
use Rattle.room_lexer.specs.Enclosed.{closed_len}
use Rattle.room_lexer.proofs.enclosed.closed_len.Given as goal

abbrev pub invariant-loop-i : goal.invariant-loop-i
invariant-loop-i l = option_map (λ n. l.i + n) (closed_len l.place (drop l.i l.bytes)) ≡ closed_len l.initial.place l.bytes
