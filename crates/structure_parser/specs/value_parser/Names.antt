-- The grammar of names joined by dots and of imports, read from left to right.
use Rattle.std.specs.Prelude.{ℕ, List, Bool, true, false, if◌then◌else◌}
use Rattle.room_lexer.specs.declared.token.Mark.TheVariants as marks
use Rattle.room_lexer.specs.declared.word.Word.TheVariants as words
use Rattle.room_ast.specs.Values.{TokenValue}
use Rattle.room_ast.specs.declared.model.Dotted.{Dotted}
use Rattle.room_ast.specs.declared.model.Import.{Import}
use Rattle.room_ast.specs.declared.model.ImportSource.{ImportSource}
use Rattle.room_tokens.specs.Reader.{Reader, ◌⊕◌, ◌▹◌, reads_as, optional, flag, all_while, rest_of}
use Rattle.room_tokens.specs.Single.{comes, comes_word, comes_string, mark, word, name_at, string_at}

-- "." name
unfoldable pub dot_name_at : Reader TokenValue (List ℕ)
dot_name_at = mark marks.Dot ▹ name_at

-- name { "." name }
unfoldable pub dotted_at : Reader TokenValue Dotted
dotted_at = reads_as (λ x. record { first = x.0; others = x.1 }) (name_at ⊕ all_while (comes marks.Dot) dot_name_at)

-- whether a dot comes, and no star behind it
unfoldable pub goes_on_in_path : List TokenValue → Bool
goes_on_in_path ts = if comes marks.Dot ts then (if comes marks.Star (rest_of ts) then false else true) else false

-- name { "." name }, up to a dot with a star behind it
unfoldable pub path_at : Reader TokenValue Dotted
path_at = reads_as (λ x. record { first = x.0; others = x.1 }) (name_at ⊕ all_while goes_on_in_path dot_name_at)

-- [ "." "*" ]
unfoldable pub all_at : Reader TokenValue Bool
all_at = flag (comes marks.Dot) (mark marks.Dot ▹ mark marks.Star)

-- [ "from" ] STRING
unfoldable pub source_at : Reader TokenValue ImportSource
source_at = reads_as (λ x. record { has_word = x.0; text = x.1 }) (flag (comes_word words.From) (word words.From) ⊕ string_at)

unfoldable pub source_comes : List TokenValue → Bool
source_comes ts = if comes_word words.From ts then true else comes_string ts

-- "import" dotted [ "." "*" ] [ [ "from" ] STRING ]
unfoldable pub import_at : Reader TokenValue Import
import_at = reads_as (λ x. record { path = x.0; all = x.1.0; source = x.1.1 }) (word words.Import ▹ path_at ⊕ all_at ⊕ optional source_comes source_at)
