-- Steps by the places where they begin.
use Rattle.std.specs.Prelude.{◌≡◌, ℕ, List, [], ◌∷◌, ◌++◌, Option, Some, None, fold, length, map, position, replicate, slice_get, slice_set, slice_index_or}
use Rattle.std.specs.List.{filter_map}
use Rattle.name_tables.specs.name_numbers.Names.{same}
use Rattle.chart_reader.specs.chart_nodes.Steps.{StepTree}

-- the steps with some numbers
abbrev pub picked : List StepTree → List ℕ → List StepTree
picked steps numbers = filter_map (λ i. slice_get steps i) numbers

-- a number is put at the end of a group
unfoldable pub put_number : Option ℕ → ℕ → List (List ℕ) → List (List ℕ)
put_number (Some k) i groups = slice_set groups k (slice_index_or groups k [] ++ i ∷ [])
put_number None i groups = groups

-- a step is put at the end of a group
unfoldable pub put : Option ℕ → StepTree → List (List StepTree) → List (List StepTree)
put (Some k) s groups = slice_set groups k (slice_index_or groups k [] ++ s ∷ [])
put None s groups = groups

abbrev pub put_by : List (List ℕ) → List (List StepTree) → StepTree → List (List StepTree)
put_by keys groups s = put (position (same s.origin) keys) s groups

-- for each key the steps that begin at its place, in their order
abbrev pub groups_of : List (List ℕ) → List StepTree → List (List StepTree)
groups_of keys steps = fold (put_by keys) (replicate (length keys) []) steps

-- groups of numbers are those of steps by keys
abbrev pub IsGrouped : List (List ℕ) → List (List ℕ) → List StepTree → Type 0
IsGrouped keys groups steps = map (picked steps) groups ≡ groups_of keys steps
