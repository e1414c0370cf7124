-- Whether names are distinct, as a test.
use Rattle.std.specs.Prelude.{ℕ, ◌&&◌, Bool, true, not, List, [], ◌∷◌}
use Rattle.name_tables.specs.name_numbers.Names.{is_among}

-- Whether no two of the names are the same.
abbrev pub is_distinct : List (List ℕ) → Bool
is_distinct [] = true
is_distinct (name ∷ names) = not (is_among names name) && is_distinct names
