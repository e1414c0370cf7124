-- The attributes of an actor class, and the numbers that they stand for.
use Rattle.std.specs.Prelude.{ℕ, ℤ, pos, zero, suc, List, [], ◌∷◌, ◌++◌, map, length, Option, Some, None, ◌-ℤ◌}
use Rattle.std.specs.List.{filter_map, flat_map, slice_index_or}
use Rattle.std.specs.Option.{option_map_or}
use Rattle.room_kinds.specs.declared.number_type.NumberType.{NumberType}
use Rattle.room_ast.specs.Trees.{ModelTree, ActorTree}
use Rattle.room_ast.specs.declared.actor.StructureItem.{StructureItem}
use Rattle.room_ast.specs.declared.actor.StructureItem.TheVariants as structures
use Rattle.room_ast.specs.declared.protocol.Attribute.{Attribute}
use Rattle.room_ast.specs.declared.protocol.DataClass.{DataClass}
use Rattle.room_ast.specs.declared.protocol.PlainValue.{PlainValue}
use Rattle.room_ast.specs.declared.protocol.PlainValue.TheVariants as plain
use Rattle.room_ast.specs.declared.protocol.Value.{Value}
use Rattle.room_ast.specs.declared.protocol.Value.TheVariants as values
use Rattle.room_ast.specs.declared.model_parts.entries.TypeEntry.{TypeEntry}
use Rattle.room_ast.specs.declared.model_parts.entries.TypeEntry.TheVariants as types
use Rattle.room_ast.specs.model_parts.Classes.{data_names, data_classes}
use Rattle.room_ast.specs.model_parts.Ports.{structure_of}
use Rattle.room_ast.specs.model_parts.Types.{type_entry, fields_of}

abbrev pub as_attribute : StructureItem → Option Attribute
as_attribute (structures.Usercode u) = None
as_attribute (structures.External e) = None
as_attribute (structures.Port p) = None
as_attribute (structures.Access s) = None
as_attribute (structures.Implementation i) = None
as_attribute (structures.Attribute a) = Some a
as_attribute (structures.Reference r) = None
as_attribute (structures.Binding b) = None
as_attribute (structures.Layer l) = None

-- The attributes of an actor class.
abbrev pub attributes_of : ActorTree → List Attribute
attributes_of a = filter_map as_attribute (structure_of a)

-- The number that a plain value is: `true` is 1 and `false` 0.
abbrev pub plain_number : PlainValue → ℤ
plain_number (plain.Number n) = pos n
plain_number (plain.Negative n) = pos 0 -ℤ pos n
plain_number plain.True = pos 1
plain_number plain.False = pos 0

-- The number that an initial value is, in quotes or not.
abbrev pub value_number : Value → ℤ
value_number (values.Plain v) = plain_number v
value_number (values.Quoted text v) = plain_number v

-- The number with which an attribute begins: 0 where no value is written.
abbrev pub initial_number : Attribute → ℤ
initial_number a = option_map_or value_number a.value (pos 0)

-- A number of a class: its dotted name, its type, and the number with which it begins.
pub record ClassNumber : Type 0 where
  pub path : List (List ℕ)
  pub kind : NumberType
  pub initial : ℤ

-- The numbers of an attribute under its path: one where its type is an integer type or `boolean`, else those of the fields of its data class, each under the path with the field's name, and with the field's own initial values. Classes are looked into at most so deep.
abbrev pub numbers_under : ℕ → List (List ℕ) → List DataClass → List (List ℕ) → ℤ → TypeEntry → List ClassNumber
numbers_under depth names classes path initial (types.Number t) = record { path = path; kind = t; initial = initial } ∷ []
numbers_under depth names classes path initial types.Unknown = []
numbers_under zero names classes path initial (types.Class n) = []
numbers_under (suc depth) names classes path initial (types.Class n) =
    flat_map (λ (f : Attribute). numbers_under depth names classes (path ++ f.name ∷ []) (initial_number f) (type_entry names f.type_name))
    (slice_index_or (map fields_of classes) n [])

-- The numbers of an actor class, in order of declaration.
abbrev pub class_numbers : ModelTree → ActorTree → List ClassNumber
class_numbers m a =
    flat_map (λ (f : Attribute). numbers_under (length (data_classes m)) (data_names m) (data_classes m) (f.name ∷ []) (initial_number f) (type_entry (data_names m) f.type_name))
    (attributes_of a)
