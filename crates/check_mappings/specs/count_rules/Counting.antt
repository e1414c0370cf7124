-- What is counted on the way to the rule.
use Rattle.std.specs.Prelude.{ℕ, min, Bool, nat_le, List, is_some}
use Rattle.std.specs.List.{sum_by}
use Rattle.std.specs.Option.{option_map_or}
use Rattle.room_ast.specs.Trees.{ActorTree, SubsystemItemTree}
use Rattle.room_ast.specs.declared.actor.StructureItem.{StructureItem}
use Rattle.room_ast.specs.declared.protocol.Attribute.{Attribute}
use Rattle.room_ast.specs.model_parts.Attributes.{as_attribute}
use Rattle.room_ast.specs.model_parts.Ports.{structure_of, structure_name}
use Rattle.room_ast.specs.model_parts.References.{as_reference, as_subsystem_reference}
use Rattle.room_ast.specs.model_parts.Types.{type_entry}
use Rattle.check_classes.specs.class_sizes.Sizes.{size_by, cap}

-- More states than the rule allows: larger counts count as this one.
abbrev pub most_counted : ℕ
most_counted = 60001

-- Whether an item of a Structure declares a port or a service access point.
abbrev pub is_port : StructureItem → Bool
is_port item = is_some (structure_name item)

-- Whether an item of a Structure is a reference.
abbrev pub is_reference : StructureItem → Bool
is_reference item = is_some (as_reference item)

-- Whether an item of a subsystem class is a reference.
abbrev pub is_subsystem_reference : SubsystemItemTree → Bool
is_subsystem_reference item = is_some (as_subsystem_reference item)

-- How many numbers an attribute stands for, where these are the names and the sizes of the data classes.
abbrev pub attribute_size : List (List ℕ) → List ℕ → Attribute → ℕ
attribute_size names sizes f = size_by sizes (type_entry names f.type_name)

-- How many numbers an item of a Structure adds to its class.
abbrev pub item_size : List (List ℕ) → List ℕ → StructureItem → ℕ
item_size names sizes item = option_map_or (attribute_size names sizes) (as_attribute item) 0

-- Whether the attributes of an actor class stand for at most 4,096 numbers, by the sizes of the data classes.
abbrev pub numbers_fit : List (List ℕ) → List ℕ → ActorTree → Bool
numbers_fit names sizes a = nat_le (min cap (sum_by (item_size names sizes) (structure_of a))) 4096
