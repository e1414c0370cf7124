use Rattle.std.proofs.Common.{length, ◌≡◌, ◌<◌, ◌+◌, ◌++◌, ℕ}
use Rattle.room_lexer.specs.Cutting.{cut, tokens, map_ok}
use Rattle.room_lexer.proofs.cutting.all.Given as goal

abbrev pub invariant-loop-rest : goal.invariant-loop-rest
invariant-loop-rest l =
    (n : ℕ) × (length l.rest < n) × (l.at + length l.rest ≡ length l.bytes)
    × (map_ok (λ ts. l.tokens.items ++ ts) (cut n l.at l.rest) ≡ tokens l.bytes)

abbrev pub decreases-loop-rest : goal.decreases-loop-rest
decreases-loop-rest l = length l.rest
