-- Files in memory.
use Rattle.std.specs.Prelude.{ℕ, List, map, Bool, nat_eq, Option, Vec, String, string_bytes, slice_get}
use Rattle.std.specs.declared.alloc.Global.{Global}
use Rattle.std.specs.Option.{option_map}
use Rattle.std.specs.List.{position_or_len}
use lib.Pointwise.{pointwise}

-- names and texts
abbrev pub files_of : List (String Global × Vec ℕ Global) → List (List ℕ × List ℕ)
files_of files = map (λ file. (string_bytes file.0, file.1.items)) files

-- whether a file has this name
abbrev pub is_named : List ℕ → List ℕ × List ℕ → Bool
is_named name file = pointwise nat_eq file.0 name

-- the place of the first file of this name, or the place behind the last file
abbrev pub place_of : List (List ℕ × List ℕ) → List ℕ → ℕ
place_of files name = position_or_len (is_named name) files

-- the text of the first file of this name
abbrev pub text_under : List (List ℕ × List ℕ) → List ℕ → Option (List ℕ)
text_under files name = option_map (λ file. file.1) (slice_get files (place_of files name))
