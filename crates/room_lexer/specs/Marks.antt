-- The marks and their bytes.
use Rattle.std.specs.Prelude.{ℕ, List, Option, Some, None, codes, ◌==◌, ◌&&◌, if◌then◌else◌}
use Rattle.room_lexer.specs.declared.token.Mark.{Mark}
use Rattle.room_lexer.specs.declared.token.Mark.TheVariants as marks

-- the bytes of a mark
abbrev pub mark_text : Mark → List ℕ
mark_text marks.OpenBrace = codes "{"
mark_text marks.CloseBrace = codes "}"
mark_text marks.OpenParen = codes "("
mark_text marks.CloseParen = codes ")"
mark_text marks.OpenBracket = codes "["
mark_text marks.CloseBracket = codes "]"
mark_text marks.Less = codes "<"
mark_text marks.Greater = codes ">"
mark_text marks.Colon = codes ":"
mark_text marks.Comma = codes ","
mark_text marks.Dot = codes "."
mark_text marks.Star = codes "*"
mark_text marks.Minus = codes "-"
mark_text marks.Equals = codes "="
mark_text marks.Bar = codes "|"
mark_text marks.Slash = codes "/"
mark_text marks.Semicolon = codes ";"
mark_text marks.Plus = codes "+"
mark_text marks.Percent = codes "%"
mark_text marks.Bang = codes "!"
mark_text marks.Arrow = codes "->"
mark_text marks.EqualEqual = codes "=="
mark_text marks.NotEqual = codes "!="
mark_text marks.AtMost = codes "<="
mark_text marks.AtLeast = codes ">="
mark_text marks.AndAnd = codes "&&"
mark_text marks.OrOr = codes "||"

-- the mark of one byte
unfoldable pub mark_of : ℕ → Option Mark
mark_of b =
    if b == 123 then Some marks.OpenBrace else
    if b == 125 then Some marks.CloseBrace else
    if b == 40 then Some marks.OpenParen else
    if b == 41 then Some marks.CloseParen else
    if b == 91 then Some marks.OpenBracket else
    if b == 93 then Some marks.CloseBracket else
    if b == 60 then Some marks.Less else
    if b == 62 then Some marks.Greater else
    if b == 58 then Some marks.Colon else
    if b == 44 then Some marks.Comma else
    if b == 46 then Some marks.Dot else
    if b == 42 then Some marks.Star else
    if b == 45 then Some marks.Minus else
    if b == 61 then Some marks.Equals else
    if b == 124 then Some marks.Bar else
    if b == 47 then Some marks.Slash else
    if b == 59 then Some marks.Semicolon else
    if b == 43 then Some marks.Plus else
    if b == 37 then Some marks.Percent else
    if b == 33 then Some marks.Bang else
    None

-- the mark of two bytes
unfoldable pub pair_of : ℕ → ℕ → Option Mark
pair_of b c =
    if b == 45 && c == 62 then Some marks.Arrow else
    if b == 61 && c == 61 then Some marks.EqualEqual else
    if b == 33 && c == 61 then Some marks.NotEqual else
    if b == 60 && c == 61 then Some marks.AtMost else
    if b == 62 && c == 61 then Some marks.AtLeast else
    if b == 38 && c == 38 then Some marks.AndAnd else
    if b == 124 && c == 124 then Some marks.OrOr else
    None
