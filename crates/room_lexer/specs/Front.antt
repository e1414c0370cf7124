-- What stands at the front of a text, by its first bytes.
use Rattle.std.specs.Prelude.{ℕ, ◌+◌, ◌-◌, ◌*◌, List, [], ◌∷◌, take, drop, Option, Some, None, Result, Ok, Err, Bool, false, ◌==◌, ◌||◌, ◌&&◌, nat_le, not, if◌then◌else◌}
use Rattle.std.specs.List.{prefix_len}
use Rattle.room_lexer.specs.Words.{word_of}
use Rattle.room_lexer.specs.Marks.{mark_of, pair_of}
use Rattle.room_lexer.specs.Enclosed.{is_blank, closed_len, begins_string}
use Rattle.room_lexer.specs.declared.enclosed.Place.TheVariants as places
use Rattle.room_lexer.specs.declared.piece.Kind.{Kind}
use Rattle.room_lexer.specs.declared.piece.Kind.TheVariants.{Blank, LineComment, BlockComment, Documentation, Token}
use Rattle.room_lexer.specs.declared.piece.Cause.{Cause}
use Rattle.room_lexer.specs.declared.piece.Cause.TheVariants.{BadByte, OpenString, OpenComment, NumberTooLarge}
use Rattle.room_lexer.specs.declared.token.TokenKind.TheVariants.{Ident, Number, Str, Block}
use Rattle.room_lexer.specs.declared.token.TokenKind.TheVariants as kinds
use Rattle.room_lexer.specs.declared.token.Mark.{Mark}

abbrev pub is_digit : ℕ → Bool
is_digit b = nat_le 48 b && nat_le b 57

abbrev pub is_letter : ℕ → Bool
is_letter b = nat_le 97 b && nat_le b 122 || nat_le 65 b && nat_le b 90 || b == 95

-- a byte of an identifier behind its first
abbrev pub is_word : ℕ → Bool
is_word b = is_letter b || is_digit b

-- a byte of a line comment
abbrev pub on_line : ℕ → Bool
on_line b = not (b == 10)

abbrev pub max_number : ℕ
max_number = 9223372036854775807

-- the value of decimal digits behind digits of the value n
abbrev pub value_from : ℕ → List ℕ → ℕ
value_from n [] = n
value_from n (d ∷ ds) = value_from (10 * n + (d - 48)) ds

-- the value of decimal digits
abbrev pub value : List ℕ → ℕ
value ds = value_from 0 ds

-- their value, if it isn't too large
unfoldable pub number_of : List ℕ → Option ℕ
number_of ds = if nat_le (value ds) max_number then Some (value ds) else None

-- whether a byte comes
abbrev pub begins : ℕ → List ℕ → Bool
begins c [] = false
begins c (b ∷ bs) = b == c

-- whether two bytes come
abbrev pub begins_two : ℕ → ℕ → List ℕ → Bool
begins_two c d [] = false
begins_two c d (b ∷ bs) = b == c && begins d bs

-- the byte that comes, or 0 at the end
abbrev pub first_or_zero : List ℕ → ℕ
first_or_zero [] = 0
first_or_zero (b ∷ bs) = b

abbrev pub number_front : ℕ → Option ℕ → Result (Kind × ℕ) Cause
number_front len None = Err NumberTooLarge
number_front len (Some n) = Ok (Token (Number n), len)

-- what was opened by so many bytes, and how long its rest is
abbrev pub enclosed : Kind → ℕ → Cause → Option ℕ → Result (Kind × ℕ) Cause
enclosed kind opening cause None = Err cause
enclosed kind opening cause (Some n) = Ok (kind, opening + n)

abbrev pub mark_front : Option Mark → Result (Kind × ℕ) Cause
mark_front None = Err BadByte
mark_front (Some m) = Ok (Token (kinds.Mark m), 1)

-- the longer mark, if there is one
abbrev pub longest_mark : Option Mark → Option Mark → Result (Kind × ℕ) Cause
longest_mark (Some m) short = Ok (Token (kinds.Mark m), 2)
longest_mark None short = mark_front short

unfoldable pub front : List ℕ → Result (Kind × ℕ) Cause
front [] = Err BadByte
front (b ∷ bs) =
    if is_blank b then Ok (Blank, 1 + prefix_len is_blank bs) else
    if is_letter b then Ok (Token (Ident (word_of (take (1 + prefix_len is_word bs) (b ∷ bs)))), 1 + prefix_len is_word bs) else
    if is_digit b then number_front (1 + prefix_len is_digit bs) (number_of (take (1 + prefix_len is_digit bs) (b ∷ bs))) else
    if b == 34 then enclosed (Token Str) 1 OpenString (closed_len places.Text bs) else
    if b == 47 && begins 47 bs then Ok (LineComment, 1 + prefix_len on_line bs) else
    if b == 47 && begins 42 bs then enclosed BlockComment 2 OpenComment (closed_len places.Comment (drop 1 bs)) else
    if b == 91 && begins_string bs then enclosed Documentation 1 OpenString (closed_len places.Between bs) else
    if b == 39 && begins_two 39 39 bs then enclosed (Token Block) 3 OpenString (closed_len places.Block (drop 2 bs)) else
    longest_mark (pair_of b (first_or_zero bs)) (mark_of b)
