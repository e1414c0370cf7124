-- The rules on types and initial values.
use Rattle.std.specs.Prelude.{ℕ, ◌&&◌, ◌||◌, Bool, true, false, List, nat_le, is_some, Option}
use Rattle.std.specs.List.{list_all}
use Rattle.std.specs.Option.{option_map_or}
use Rattle.name_tables.specs.name_numbers.Names.{is_among}
use Rattle.room_kinds.specs.declared.number_type.NumberType.{NumberType}
use Rattle.room_kinds.specs.declared.number_type.NumberType.TheVariants as numbers
use Rattle.room_ast.specs.Trees.{ModelTree, ClassTree, ASystem, ASubsystem, AnActor, AProtocol, AData}
use Rattle.room_ast.specs.declared.actor.StructureItem.{StructureItem}
use Rattle.room_ast.specs.declared.actor.StructureItem.TheVariants as structures
use Rattle.room_ast.specs.declared.protocol.Attribute.{Attribute}
use Rattle.room_ast.specs.declared.protocol.DataItem.{DataItem}
use Rattle.room_ast.specs.declared.protocol.DataItem.TheVariants as items
use Rattle.room_ast.specs.declared.protocol.Message.{Message}
use Rattle.room_ast.specs.declared.protocol.Parameter.{Parameter}
use Rattle.room_ast.specs.declared.protocol.Parameter.TheVariants as parameters
use Rattle.room_ast.specs.declared.protocol.PlainValue.{PlainValue}
use Rattle.room_ast.specs.declared.protocol.PlainValue.TheVariants as plain
use Rattle.room_ast.specs.declared.protocol.Value.{Value}
use Rattle.room_ast.specs.declared.protocol.Value.TheVariants as values
use Rattle.room_ast.specs.model_parts.Classes.{data_names}
use Rattle.room_ast.specs.model_parts.Ports.{structure_of}
use Rattle.room_ast.specs.model_parts.Types.{number_type, incoming_of, outgoing_of}

-- ---- rule 6

-- Whether a type is known: an integer type, `boolean`, or one of these data classes.
unfoldable pub is_known : List (List ℕ) → List ℕ → Bool
is_known classes name = is_some (number_type name) || is_among classes name

abbrev pub field_is_known : List (List ℕ) → DataItem → Bool
field_is_known classes (items.Usercode u) = true
field_is_known classes (items.Attribute a) = is_known classes a.type_name

abbrev pub attribute_is_known : List (List ℕ) → StructureItem → Bool
attribute_is_known classes (structures.Usercode u) = true
attribute_is_known classes (structures.External e) = true
attribute_is_known classes (structures.Port p) = true
attribute_is_known classes (structures.Access s) = true
attribute_is_known classes (structures.Implementation i) = true
attribute_is_known classes (structures.Attribute a) = is_known classes a.type_name
attribute_is_known classes (structures.Reference r) = true
attribute_is_known classes (structures.Binding b) = true
attribute_is_known classes (structures.Layer l) = true

abbrev pub parameter_is_known : List (List ℕ) → Parameter → Bool
parameter_is_known classes parameters.Absent = true
parameter_is_known classes parameters.Empty = true
parameter_is_known classes (parameters.Typed name) = is_known classes name
parameter_is_known classes (parameters.Labelled label name) = is_known classes name

abbrev pub message_is_known : List (List ℕ) → Message → Bool
message_is_known classes message = parameter_is_known classes message.parameter

-- Whether each type that a class names, of a field, an attribute or a message, is known.
abbrev pub types_are_known : List (List ℕ) → ClassTree → Bool
types_are_known classes (ASystem s) = true
types_are_known classes (ASubsystem s) = true
types_are_known classes (AnActor a) = list_all (attribute_is_known classes) (structure_of a)
types_are_known classes (AProtocol p) = list_all (message_is_known classes) (incoming_of p) && list_all (message_is_known classes) (outgoing_of p)
types_are_known classes (AData d) = list_all (field_is_known classes) d.items

-- Rule 6. Every type that is named is known.
unfoldable pub has_known_types : ModelTree → Bool
has_known_types m = list_all (types_are_known (data_names m)) m.classes

-- ---- rule 9

-- The greatest number of a type.
abbrev pub greatest : NumberType → ℕ
greatest numbers.Int8 = 127
greatest numbers.Int16 = 32767
greatest numbers.Int32 = 2147483647
greatest numbers.Uint8 = 255
greatest numbers.Uint16 = 65535
greatest numbers.Uint32 = 4294967295
greatest numbers.Boolean = 1
greatest numbers.Plain = 0

-- How far below 0 the least number of a type lies.
abbrev pub depth : NumberType → ℕ
depth numbers.Int8 = 128
depth numbers.Int16 = 32768
depth numbers.Int32 = 2147483648
depth numbers.Uint8 = 0
depth numbers.Uint16 = 0
depth numbers.Uint32 = 0
depth numbers.Boolean = 0
depth numbers.Plain = 0

-- Whether a value lies in the range of a type: `true` is 1 and `false` 0, which lie in each.
unfoldable pub in_range : NumberType → PlainValue → Bool
in_range t (plain.Number n) = nat_le n (greatest t)
in_range t (plain.Negative n) = nat_le n (depth t)
in_range t plain.True = true
in_range t plain.False = true

abbrev pub plain_of : Value → PlainValue
plain_of (values.Plain v) = v
plain_of (values.Quoted text v) = v

-- Whether an initial value stands at an integer type or `boolean`, and lies in its range.
abbrev pub value_fits : List ℕ → Value → Bool
value_fits type_name value = option_map_or (λ t. in_range t (plain_of value)) (number_type type_name) false

-- Whether the initial value of an attribute, if it has one, fits its type.
unfoldable pub attribute_fits : Attribute → Bool
attribute_fits a = option_map_or (value_fits a.type_name) a.value true

abbrev pub field_fits : DataItem → Bool
field_fits (items.Usercode u) = true
field_fits (items.Attribute a) = attribute_fits a

abbrev pub item_fits : StructureItem → Bool
item_fits (structures.Usercode u) = true
item_fits (structures.External e) = true
item_fits (structures.Port p) = true
item_fits (structures.Access s) = true
item_fits (structures.Implementation i) = true
item_fits (structures.Attribute a) = attribute_fits a
item_fits (structures.Reference r) = true
item_fits (structures.Binding b) = true
item_fits (structures.Layer l) = true

abbrev pub values_fit : ClassTree → Bool
values_fit (ASystem s) = true
values_fit (ASubsystem s) = true
values_fit (AnActor a) = list_all item_fits (structure_of a)
values_fit (AProtocol p) = true
values_fit (AData d) = list_all field_fits d.items

-- Rule 9. An initial value stands only at an integer type or `boolean`, and lies in its range.
unfoldable pub has_fitting_values : ModelTree → Bool
has_fitting_values m = list_all values_fit m.classes
