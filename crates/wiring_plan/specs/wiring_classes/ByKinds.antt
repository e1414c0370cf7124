-- Attributes, where these are the types of the numbers of the data classes.
use Rattle.std.specs.Prelude.{ℕ, List, length}
use Rattle.room_kinds.specs.declared.number_type.NumberType.{NumberType}
use Rattle.room_ast.specs.declared.protocol.Attribute.{Attribute}
use Rattle.room_wiring.specs.declared.names.AttrNames.{AttrNames}
use Rattle.room_ast.specs.model_parts.Types.{type_entry}
use Rattle.check_scopes.specs.number_kinds.Kinds.{kinds_by}
use Rattle.wiring_plan.specs.structure_plan.Parts.{count32}
use Rattle.wiring_plan.specs.wiring_classes.Labels.{label_of}

-- An attribute, with how many numbers it stands for. The first arguments are the names of the data classes and the types of their numbers.
abbrev pub attribute_by : List (List ℕ) → List (List NumberType) → Attribute → AttrNames
attribute_by names kinds a = record { name = label_of a.name; numbers = count32 (length (kinds_by kinds (type_entry names a.type_name))) }
