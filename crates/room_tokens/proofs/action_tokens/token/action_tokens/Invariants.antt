use Rattle.std.proofs.Common.{◌≡◌, ◌<◌, ◌+◌, ◌++◌, ℕ, List, Some, length, map}
use Rattle.room_lexer.specs.Cutting.{cut, tokens, map_ok}
use Rattle.room_lexer.specs.declared.token.Token.{Token}
use Rattle.room_tokens.specs.action_tokens.Values.{values_of, token_value}
use Rattle.room_tokens.proofs.action_tokens.token.action_tokens.Given as goal

-- the tokens that were cut have the values of those that were found, and what is left has those that are missing
abbrev pub invariant-loop-rest : goal.invariant-loop-rest
invariant-loop-rest l =
    (ts : List Token) × (n : ℕ) × (length l.rest < n) × (l.at + length l.rest ≡ length l.bytes)
    × (map_ok (λ us. ts ++ us) (cut n l.at l.rest) ≡ tokens l.bytes)
    × (values_of l.bytes ts ≡ Some (map (token_value l.bytes) l.found.items))

abbrev pub decreases-loop-rest : goal.decreases-loop-rest
decreases-loop-rest l = length l.rest
