-- The fields of a line.
use Rattle.std.specs.Prelude.{ℕ, List, Bool, ◌||◌, ◌==◌, nat_lt, length, filter}
use Rattle.std.specs.List.{slice_split}

-- a blank or a tab
abbrev pub is_blank : ℕ → Bool
is_blank b = (b == 32) || (b == 9)

-- a field that has bytes
abbrev pub has_bytes : List ℕ → Bool
has_bytes text = nat_lt 0 (length text)

-- what stands between blanks; several blanks in a row part two fields as one does, and blanks may stand at both ends
unfoldable pub fields : List ℕ → List (List ℕ)
fields line = filter has_bytes (slice_split is_blank line)
