-- A text cut from the left, turn by turn.
use Rattle.std.specs.Prelude.{◌≡◌, ℕ, zero, suc, ◌+◌, List, [], ◌∷◌, ◌++◌, length, drop, Result, Ok, Err}
use Rattle.std.specs.Global.{Vec}
use Rattle.room_lexer.specs.Front.{front}
use Rattle.room_lexer.specs.declared.piece.Kind.{Kind}
use Rattle.room_lexer.specs.declared.piece.Kind.TheVariants as pieces
use Rattle.room_lexer.specs.declared.piece.Cause.{Cause}
use Rattle.room_lexer.specs.declared.piece.Cause.TheVariants as causes
use Rattle.room_lexer.specs.declared.fault.LexFault.{LexFault}
use Rattle.room_lexer.specs.declared.fault.LexFault.TheVariants as faults
use Rattle.room_lexer.specs.declared.token.Token.{Token}

-- What a function returned is what reading gives, unless memory ran out.
abbrev pub Gives : Result (Vec Token) LexFault → Result (List Token) LexFault → Type 0
Gives (Ok v) read = read ≡ Ok v.items
Gives (Err faults.Memory) read = Unit {0}
Gives (Err (faults.BadByte at)) read = read ≡ Err (faults.BadByte at)
Gives (Err (faults.OpenString at)) read = read ≡ Err (faults.OpenString at)
Gives (Err (faults.OpenComment at)) read = read ≡ Err (faults.OpenComment at)
Gives (Err (faults.NumberTooLarge at)) read = read ≡ Err (faults.NumberTooLarge at)

-- the token of a piece, if it is one
abbrev pub tokens_of : Kind → ℕ → ℕ → List Token
tokens_of (pieces.Token k) start end = record { kind = k; start = start; end = end } ∷ []
tokens_of pieces.Blank start end = []
tokens_of pieces.LineComment start end = []
tokens_of pieces.BlockComment start end = []
tokens_of pieces.Documentation start end = []

abbrev pub fault_at : Cause → ℕ → LexFault
fault_at causes.BadByte at = faults.BadByte at
fault_at causes.OpenString at = faults.OpenString at
fault_at causes.OpenComment at = faults.OpenComment at
fault_at causes.NumberTooLarge at = faults.NumberTooLarge at

abbrev pub map_ok : (List Token → List Token) → Result (List Token) LexFault → Result (List Token) LexFault
map_ok f (Ok ts) = Ok (f ts)
map_ok f (Err e) = Err e

abbrev pub go_on : (ℕ → Result (List Token) LexFault) → ℕ → Result (Kind × ℕ) Cause → Result (List Token) LexFault
go_on more at (Ok x) = map_ok (λ ts. tokens_of x.0 at (at + x.1) ++ ts) (more x.1)
go_on more at (Err f) = Err (fault_at f at)

-- The number bounds the turns. One more than the count of the bytes is enough.
unfoldable pub cut : ℕ → ℕ → List ℕ → Result (List Token) LexFault
cut zero at bytes = Ok []
cut (suc n) at [] = Ok []
cut (suc n) at (b ∷ bs) = go_on (λ len. cut n (at + len) (drop len (b ∷ bs))) at (front (b ∷ bs))

-- the tokens of a text, or why it has none
unfoldable pub tokens : List ℕ → Result (List Token) LexFault
tokens bytes = cut (length bytes + 1) 0 bytes
