-- How many numbers types stand for.
use Rattle.std.specs.Prelude.{◌≡◌, ℕ, zero, suc, ◌<◌, ◌≤◌, min, true, List, [], ◌∷◌, length, slice_index, map, Option, Some, None}
use Rattle.std.specs.Global.{Vec}
use Rattle.number_graphs.specs.class_containment.Containment.{contains_itself}
use Rattle.check_tables.specs.containment_rules.Circles.{classes_of_types}
use Rattle.std.specs.List.{sum_by, slice_index_or}
use Rattle.room_ast.specs.declared.model_parts.entries.TypeEntry.{TypeEntry}
use Rattle.room_ast.specs.declared.model_parts.entries.TypeEntry.TheVariants as types
use Rattle.room_ast.specs.model_parts.Types.{numbers_within}

-- How many numbers a type stands for, where classes are looked into at most so deep.
abbrev pub size_within : ℕ → List (List TypeEntry) → TypeEntry → ℕ
size_within depth classes t = length (numbers_within depth classes t)

-- How many numbers types stand for together.
abbrev pub sizes_within : ℕ → List (List TypeEntry) → List TypeEntry → ℕ
sizes_within depth classes ts = sum_by (size_within depth classes) ts

-- How many numbers a type stands for, where these are the sizes of the data classes.
abbrev pub size_by : List ℕ → TypeEntry → ℕ
size_by sizes (types.Number t) = 1
size_by sizes (types.Class n) = slice_index sizes n
size_by sizes types.Unknown = 0

-- More numbers than any rule allows: larger sizes count as this one.
abbrev pub cap : ℕ
cap = 4097

-- These are the sizes of the data classes: the number of the numbers of each, or the cap where there are more.
pub record AreSizes (classes : List (List TypeEntry)) (sizes : List ℕ) : Type 0 where
  pub count : length sizes ≡ length classes
  pub right : (i : ℕ) → i < length classes → slice_index sizes i ≡ min cap (size_within (length classes) classes (types.Class i))

-- The size of a class by those of its fields.
abbrev pub size_noted : List (List TypeEntry) → List ℕ → ℕ → ℕ
size_noted classes sizes i = min cap (sum_by (size_by sizes) (slice_index_or classes i []))

-- The sizes of the data classes; none where a class contains itself.
abbrev pub HasSizes : List (List TypeEntry) → Option (Vec ℕ) → Type 0
HasSizes classes (Some sizes) = AreSizes classes sizes.items
HasSizes classes None = contains_itself (map classes_of_types classes) ≡ true
