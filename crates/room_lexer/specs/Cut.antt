-- A text cut into pieces: what each piece is, and where it ends.
use Rattle.std.specs.Prelude.{◌≡◌, ◌≢◌, ℕ, ◌+◌, ◌<◌, ◌≤◌, ◌-◌, take, drop, List, [], ◌∷◌, ◌++◌, length, Bool, true, false, ◌==◌, ◌||◌, codes, ◌⊎◌}
use Rattle.room_lexer.specs.Words.{Spells}
use Rattle.room_lexer.specs.Marks.{mark_text}
use Rattle.room_lexer.specs.Enclosed.{is_blank, Closes, begins_string}
use Rattle.room_lexer.specs.Front.{is_letter, is_digit, is_word, on_line, max_number, value}
use Rattle.room_lexer.specs.Cutting.{tokens_of}
use Rattle.room_lexer.specs.declared.enclosed.Place.{Place}
use Rattle.room_lexer.specs.declared.enclosed.Place.TheVariants as places
use Rattle.room_lexer.specs.declared.piece.Kind.{Kind}
use Rattle.room_lexer.specs.declared.piece.Kind.TheVariants as pieces
use Rattle.room_lexer.specs.declared.piece.Cause.{Cause}
use Rattle.room_lexer.specs.declared.piece.Cause.TheVariants.{BadByte, OpenString, OpenComment, NumberTooLarge}
use Rattle.room_lexer.specs.declared.token.TokenKind.{TokenKind}
use Rattle.room_lexer.specs.declared.token.TokenKind.TheVariants.{Ident, Number, Str, Block}
use Rattle.room_lexer.specs.declared.token.TokenKind.TheVariants as kinds
use Rattle.room_lexer.specs.declared.token.Mark.{Mark}
use Rattle.room_lexer.specs.declared.token.Mark.TheVariants as marks
use Rattle.room_lexer.specs.declared.token.Token.{Token}

-- a part of a text
pub record Piece : Type 0 where
  pub kind : Kind
  pub text : List ℕ

-- each byte passes the test
abbrev pub Each : (ℕ → Bool) → List ℕ → Type 0
Each p [] = Unit {0}
Each p (b ∷ bs) = (p b ≡ true) × Each p bs

-- what comes doesn't begin with a byte that passes
abbrev pub Stops : (ℕ → Bool) → List ℕ → Type 0
Stops p [] = Unit {0}
Stops p (b ∷ bs) = p b ≡ false

-- one byte that begins, and then bytes that go on
abbrev pub IsRun : (ℕ → Bool) → (ℕ → Bool) → List ℕ → Type 0
IsRun first others [] = ⊥
IsRun first others (b ∷ bs) = (first b ≡ true) × Each others bs

-- an opening, and then bytes that lead from its place to the end of what it opened
abbrev pub IsEnclosed : List ℕ → Place → List ℕ → Type 0
IsEnclosed opening place text = (inside : List ℕ) × Closes place inside × (text ≡ opening ++ inside)

abbrev pub IsToken : TokenKind → List ℕ → Type 0
IsToken (Ident word) text = IsRun is_letter is_word text × Spells word text
IsToken (Number n) text = IsRun is_digit is_digit text × (n ≡ value text)
IsToken Str text = IsEnclosed (codes "\"") places.Text text
IsToken Block text = IsEnclosed (codes "'''") places.Block text
IsToken (kinds.Mark m) text = text ≡ mark_text m

-- The text has the form of this kind. A documentation has a string.
abbrev pub IsPiece : Kind → List ℕ → Type 0
IsPiece pieces.Blank text = IsRun is_blank is_blank text
IsPiece pieces.LineComment text = (inside : List ℕ) × Each on_line inside × (text ≡ codes "//" ++ inside)
IsPiece pieces.BlockComment text = IsEnclosed (codes "/*") places.Comment text
IsPiece pieces.Documentation text = (inside : List ℕ) × (begins_string inside ≡ true) × Closes places.Between inside × (text ≡ codes "[" ++ inside)
IsPiece (pieces.Token k) text = IsToken k text

-- no longer mark stands here
abbrev pub NoLonger : Mark → List ℕ → Type 0
NoLonger m rest = (longer : Mark) (after : List ℕ) → length (mark_text m) < length (mark_text longer) → mark_text m ++ rest ≢ mark_text longer ++ after

-- a slash doesn't begin a comment, and a bracket no documentation
abbrev pub OpensNothing : Mark → List ℕ → Type 0
OpensNothing marks.Slash rest = Stops (λ b. b == 47 || b == 42) rest
OpensNothing marks.OpenBracket rest = begins_string rest ≡ false
OpensNothing m rest = Unit {0}

-- what comes behind a piece doesn't make it longer
abbrev pub Ends : Kind → List ℕ → Type 0
Ends pieces.Blank rest = Stops is_blank rest
Ends pieces.LineComment rest = Stops on_line rest
Ends pieces.BlockComment rest = Unit {0}
Ends pieces.Documentation rest = Unit {0}
Ends (pieces.Token (Ident word)) rest = Stops is_word rest
Ends (pieces.Token (Number n)) rest = Stops is_digit rest
Ends (pieces.Token Str) rest = Unit {0}
Ends (pieces.Token Block) rest = Unit {0}
Ends (pieces.Token (kinds.Mark m)) rest = NoLonger m rest × OpensNothing m rest

-- a number isn't too large
abbrev pub Fits : Kind → Type 0
Fits (pieces.Token (Number n)) = n ≤ max_number
Fits k = Unit {0}

-- the pieces stand at the front of the bytes, and the rest behind them
abbrev pub CutTo : List ℕ → List Piece → List ℕ → Type 0
CutTo bytes [] rest = bytes ≡ rest
CutTo bytes (p ∷ ps) rest = (after : List ℕ) × (bytes ≡ p.text ++ after) × IsPiece p.kind p.text × Ends p.kind after × Fits p.kind × CutTo after ps rest

-- the tokens among the pieces, from a place on
abbrev pub placed : ℕ → List Piece → List Token
placed at [] = []
placed at (p ∷ ps) = tokens_of p.kind at (at + length p.text) ++ placed (at + length p.text) ps

abbrev pub end_of : ℕ → List Piece → ℕ
end_of at [] = at
end_of at (p ∷ ps) = end_of (at + length p.text) ps

-- what the opening opens at the front of these bytes doesn't end
abbrev pub StaysOpen : List ℕ → Place → List ℕ → Type 0
StaysOpen opening place rest = (more : List ℕ) × (rest ≡ opening ++ more) × ((inside after : List ℕ) → Closes place inside → more ≢ inside ++ after)

-- a bracket begins a documentation that doesn't end in its form
abbrev pub OpenDocumentation : List ℕ → Type 0
OpenDocumentation rest = (left : StaysOpen (codes "[") places.Between rest) × (begins_string left.0 ≡ true)

-- a string, a block or a documentation begins here and doesn't end
abbrev pub IsOpenText : List ℕ → Type 0
IsOpenText rest = StaysOpen (codes "\"") places.Text rest ⊎ (StaysOpen (codes "'''") places.Block rest ⊎ OpenDocumentation rest)

-- no piece begins here
abbrev pub BeginsNoPiece : List ℕ → Type 0
BeginsNoPiece rest = (kind : Kind) (text after : List ℕ) → IsPiece kind text → text ++ after ≢ rest

-- why the rest can't be cut at its first byte
abbrev pub Offends : Cause → List ℕ → Type 0
Offends BadByte rest = BeginsNoPiece rest × (IsOpenText rest → ⊥)
Offends OpenString rest = IsOpenText rest
Offends OpenComment rest = StaysOpen (codes "/*") places.Comment rest
Offends NumberTooLarge rest = (n : ℕ) × (text : List ℕ) × (after : List ℕ) × IsToken (Number n) text × (rest ≡ text ++ after) × Stops is_digit after × (max_number < n)

-- the first offender stands at this place
abbrev pub FailsAt : Cause → ℕ → List ℕ → Type 0
FailsAt cause at bytes = (ps : List Piece) × (rest : List ℕ) × CutTo bytes ps rest × (at ≡ end_of 0 ps) × Offends cause rest

-- the text of a token
abbrev pub slice : List ℕ → Token → List ℕ
slice bytes t = take (t.end - t.start) (drop t.start bytes)

abbrev pub text_if_token : Kind → List ℕ → List (List ℕ)
text_if_token (pieces.Token k) text = text ∷ []
text_if_token k text = []

-- the texts of the tokens among the pieces
abbrev pub token_texts : List Piece → List (List ℕ)
token_texts [] = []
token_texts (p ∷ ps) = text_if_token p.kind p.text ++ token_texts ps

-- each token begins at or behind a place, and the next one at or behind its end
abbrev pub Rises : ℕ → List Token → Type 0
Rises at [] = Unit {0}
Rises at (t ∷ ts) = (at ≤ t.start) × (t.start < t.end) × Rises t.end ts
