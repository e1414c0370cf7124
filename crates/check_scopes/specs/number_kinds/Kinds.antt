-- The types of the numbers of types, by those of the data classes.
use Rattle.std.specs.Prelude.{◌≡◌, ℕ, ◌<◌, true, List, [], ◌∷◌, length, map, Option, Some, None}
use Rattle.std.specs.Global.{Vec}
use Rattle.std.specs.List.{flat_map, slice_index_or}
use Rattle.room_kinds.specs.declared.number_type.NumberType.{NumberType}
use Rattle.number_graphs.specs.class_containment.Containment.{contains_itself}
use Rattle.check_tables.specs.containment_rules.Circles.{classes_of_types}
use Rattle.room_ast.specs.declared.model_parts.entries.TypeEntry.{TypeEntry}
use Rattle.room_ast.specs.declared.model_parts.entries.TypeEntry.TheVariants as types
use Rattle.room_ast.specs.model_parts.Types.{numbers_within}

-- The types of the numbers that a type stands for, where these are those of the data classes.
abbrev pub kinds_by : List (List NumberType) → TypeEntry → List NumberType
kinds_by table (types.Number t) = t ∷ []
kinds_by table (types.Class n) = slice_index_or table n []
kinds_by table types.Unknown = []

-- The types of the numbers of a class, by those of its fields.
abbrev pub kinds_noted : List (List TypeEntry) → List (List NumberType) → ℕ → List NumberType
kinds_noted classes table i = flat_map (kinds_by table) (slice_index_or classes i [])

-- These are the types of the numbers of the data classes.
pub record AreKinds (classes : List (List TypeEntry)) (table : List (List NumberType)) : Type 0 where
  pub count : length table ≡ length classes
  pub right : (i : ℕ) → i < length classes → slice_index_or table i [] ≡ numbers_within (length classes) classes (types.Class i)

-- The types of the numbers of the data classes; none where a class contains itself.
abbrev pub HasKinds : List (List TypeEntry) → Option (Vec (List NumberType)) → Type 0
HasKinds classes (Some table) = AreKinds classes table.items
HasKinds classes None = contains_itself (map classes_of_types classes) ≡ true
