-- Codes, one behind the other.
use Rattle.std.specs.Prelude.{List, [], ◌∷◌, ◌++◌, Option, Some, None}
use Rattle.room_ast.specs.declared.chart.Code.{Code}
use Rattle.room_ast.specs.declared.chart.Code.TheVariants as code
use Rattle.room_ast.specs.declared.chart.CodeText.{CodeText}

-- The texts of a code, whether they stand in braces or not.
abbrev pub texts_of : Code → List CodeText
texts_of (code.Texts ts) = ts
texts_of (code.Single t) = t ∷ []

-- The texts of a code and then those of another. They stand in braces, since only braces hold several texts.
abbrev pub joined : Code → Code → Code
joined a b = code.Texts (texts_of a ++ texts_of b)

-- The same of codes that may be missing: where only one is there it stays as it is written.
abbrev pub joined_if : Option Code → Option Code → Option Code
joined_if None b = b
joined_if (Some a) None = Some a
joined_if (Some a) (Some b) = Some (joined a b)
