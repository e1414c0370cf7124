-- Types, and the numbers that they stand for.
use Rattle.std.specs.Prelude.{ℕ, zero, suc, List, [], ◌∷◌, map, length, Option, Some, None, unwrap_or, codes, if◌then◌else◌}
use Rattle.std.specs.List.{filter_map, flat_map, slice_index_or}
use Rattle.std.specs.Option.{option_map_or}
use Rattle.name_tables.specs.name_numbers.Names.{same}
use Rattle.room_kinds.specs.declared.number_type.NumberType.{NumberType}
use Rattle.room_kinds.specs.declared.number_type.NumberType.TheVariants as numbers
use Rattle.room_ast.specs.Trees.{ModelTree, ClassTree}
use Rattle.room_ast.specs.declared.protocol.Attribute.{Attribute}
use Rattle.room_ast.specs.declared.protocol.DataClass.{DataClass}
use Rattle.room_ast.specs.declared.protocol.DataItem.{DataItem}
use Rattle.room_ast.specs.declared.protocol.DataItem.TheVariants as items
use Rattle.room_ast.specs.declared.protocol.Message.{Message}
use Rattle.room_ast.specs.declared.protocol.Parameter.{Parameter}
use Rattle.room_ast.specs.declared.protocol.Parameter.TheVariants as parameters
use Rattle.room_ast.specs.declared.protocol.ProtocolClass.{ProtocolClass}
use Rattle.room_ast.specs.declared.model_parts.entries.TypeEntry.{TypeEntry}
use Rattle.room_ast.specs.declared.model_parts.entries.TypeEntry.TheVariants as types
use Rattle.room_ast.specs.model_parts.Classes.{number_in, as_data, data_names, data_classes}

-- The integer type, or `boolean`, of a name.
abbrev pub number_type : List ℕ → Option NumberType
number_type name =
    if same name (codes "int8") then Some numbers.Int8 else
    if same name (codes "int16") then Some numbers.Int16 else
    if same name (codes "int32") then Some numbers.Int32 else
    if same name (codes "uint8") then Some numbers.Uint8 else
    if same name (codes "uint16") then Some numbers.Uint16 else
    if same name (codes "uint32") then Some numbers.Uint32 else
    if same name (codes "boolean") then Some numbers.Boolean else None

-- What a type's name means, where these are the names of the data classes.
abbrev pub type_entry : List (List ℕ) → List ℕ → TypeEntry
type_entry classes name = option_map_or types.Number (number_type name) (option_map_or types.Class (number_in classes name) types.Unknown)

abbrev pub as_field : DataItem → Option Attribute
as_field (items.Usercode u) = None
as_field (items.Attribute a) = Some a

-- The fields of a data class.
abbrev pub fields_of : DataClass → List Attribute
fields_of d = filter_map as_field d.items

-- The types of the fields of a data class.
abbrev pub field_types : List (List ℕ) → DataClass → List TypeEntry
field_types classes d = map (λ (f : Attribute). type_entry classes f.type_name) (fields_of d)

-- The types of the fields of each data class among classes, by its number. The first argument is the names of the data classes.
unfoldable pub data_types_in : List (List ℕ) → List ClassTree → List (List TypeEntry)
data_types_in names classes = map (field_types names) (filter_map as_data classes)

-- The types of the fields of each data class of a model.
abbrev pub data_types : ModelTree → List (List TypeEntry)
data_types m = data_types_in (data_names m) m.classes

-- The types of the numbers that a type stands for: an integer type or `boolean` for one number, a data class for its fields' numbers in order of declaration, nested ones in place. Classes are looked into at most so deep.
abbrev pub numbers_within : ℕ → List (List TypeEntry) → TypeEntry → List NumberType
numbers_within depth classes (types.Number t) = t ∷ []
numbers_within depth classes types.Unknown = []
numbers_within zero classes (types.Class n) = []
numbers_within (suc depth) classes (types.Class n) = flat_map (numbers_within depth classes) (slice_index_or classes n [])

-- The types of the numbers that a type of the model stands for. Where no data class contains itself, no class lies deeper than there are classes.
abbrev pub numbers_of : ModelTree → TypeEntry → List NumberType
numbers_of m t = numbers_within (length (data_classes m)) (data_types m) t

-- The incoming messages of a protocol class.
abbrev pub incoming_of : ProtocolClass → List Message
incoming_of p = unwrap_or p.incoming []

-- The outgoing messages of a protocol class.
abbrev pub outgoing_of : ProtocolClass → List Message
outgoing_of p = unwrap_or p.outgoing []

-- The type of what a message carries, if it carries something.
abbrev pub carried_type : Parameter → Option (List ℕ)
carried_type parameters.Absent = None
carried_type parameters.Empty = None
carried_type (parameters.Typed name) = Some name
carried_type (parameters.Labelled label name) = Some name

-- The types of the numbers of a message.
abbrev pub message_numbers : ModelTree → Message → List NumberType
message_numbers m message = option_map_or (λ (name : List ℕ). numbers_of m (type_entry (data_names m) name)) (carried_type message.parameter) []
