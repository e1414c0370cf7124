-- The fields and attributes that stand for numbers, and the numbers below them.
use Rattle.std.specs.Prelude.{ℕ, ◌==◌, nat_le, zero, suc, ℤ, pos, ◌-ℤ◌, ◌++◌, Bool, true, false, not, List, [], ◌∷◌, length, Option, Some, None, option_and_then, if◌then◌else◌}
use Rattle.std.specs.List.{flat_map, filter_map, slice_index_or}
use Rattle.std.specs.Option.{option_map_or}
use Rattle.room_kinds.specs.declared.number_type.NumberType.{NumberType}
use Rattle.room_ast.specs.declared.actor.StructureItem.{StructureItem}
use Rattle.room_ast.specs.declared.protocol.Attribute.{Attribute}
use Rattle.room_ast.specs.declared.protocol.DataClass.{DataClass}
use Rattle.room_ast.specs.declared.protocol.DataItem.{DataItem}
use Rattle.room_ast.specs.declared.protocol.PlainValue.{PlainValue}
use Rattle.room_ast.specs.declared.protocol.PlainValue.TheVariants as plain
use Rattle.room_ast.specs.declared.protocol.Value.{Value}
use Rattle.room_ast.specs.declared.protocol.Value.TheVariants as values
use Rattle.room_ast.specs.model_parts.Attributes.{ClassNumber, as_attribute}
use Rattle.room_ast.specs.model_parts.Types.{type_entry, as_field}
use Rattle.room_ast.specs.declared.model_parts.entries.TypeEntry.{TypeEntry}
use Rattle.room_ast.specs.declared.model_parts.entries.TypeEntry.TheVariants as types
use Rattle.check_scopes.specs.declared.class_scopes.fields.Field.{Field}

-- A field or an attribute: its name, the number with which it begins, and what its type's name means.
pub record FieldView : Type 0 where
  pub name : List ℕ
  pub initial : ℤ
  pub entry : TypeEntry

abbrev pub field_view : Field → FieldView
field_view f = record { name = f.name.now; initial = f.initial; entry = f.entry }

-- ---- initial values

-- A number that is at most as great as those of any type; greater ones count as 0.
abbrev pub small : ℕ → ℕ
small n = if nat_le n 4294967295 then n else 0

-- The number that a plain value is, where it is one of some type.
abbrev pub plain_small : PlainValue → ℤ
plain_small (plain.Number n) = pos (small n)
plain_small (plain.Negative n) = pos 0 -ℤ pos (small n)
plain_small plain.True = pos 1
plain_small plain.False = pos 0

abbrev pub value_small : Value → ℤ
value_small (values.Plain v) = plain_small v
value_small (values.Quoted text v) = plain_small v

-- The number with which an attribute begins, where that is one of some type.
unfoldable pub initial_small : Attribute → ℤ
initial_small a = option_map_or value_small a.value (pos 0)

-- ---- fields that stand for numbers

-- Whether a type stands for a number, where these are the types of the numbers of the data classes.
abbrev pub is_kept : List (List NumberType) → TypeEntry → Bool
is_kept kinds (types.Number t) = true
is_kept kinds (types.Class n) = not (length (slice_index_or kinds n []) == 0)
is_kept kinds types.Unknown = false

abbrev pub field_of : List (List ℕ) → Attribute → FieldView
field_of names a = record { name = a.name; initial = initial_small a; entry = type_entry names a.type_name }

-- The field that an attribute is, if it stands for a number. The first arguments are the names of the data classes and the types of their numbers.
unfoldable pub kept : List (List ℕ) → List (List NumberType) → Attribute → Option FieldView
kept names kinds a = if is_kept kinds (type_entry names a.type_name) then Some (field_of names a) else None

abbrev pub kept_field : List (List ℕ) → List (List NumberType) → DataItem → Option FieldView
kept_field names kinds item = option_and_then (kept names kinds) (as_field item)

abbrev pub kept_attribute : List (List ℕ) → List (List NumberType) → StructureItem → Option FieldView
kept_attribute names kinds item = option_and_then (kept names kinds) (as_attribute item)

-- The fields of a data class that stand for numbers.
abbrev pub fields_kept : List (List ℕ) → List (List NumberType) → DataClass → List FieldView
fields_kept names kinds d = filter_map (kept_field names kinds) d.items

-- ---- the numbers below a field

-- The numbers below a path, where these are the fields of each data class that stand for numbers. Classes are looked into at most so deep.
abbrev pub numbers_below : ℕ → List (List FieldView) → List (List ℕ) → ℤ → TypeEntry → List ClassNumber
numbers_below depth fields path initial (types.Number t) = record { path = path; kind = t; initial = initial } ∷ []
numbers_below depth fields path initial types.Unknown = []
numbers_below zero fields path initial (types.Class n) = []
numbers_below (suc depth) fields path initial (types.Class n) =
    flat_map (λ (f : FieldView). numbers_below depth fields (path ++ f.name ∷ []) f.initial f.entry) (slice_index_or fields n [])

-- The numbers of attributes.
abbrev pub numbers_of_fields : List (List FieldView) → List FieldView → List ClassNumber
numbers_of_fields fields attributes = flat_map (λ (f : FieldView). numbers_below (length fields) fields (f.name ∷ []) f.initial f.entry) attributes
