-- The ports of an actor class.
use Rattle.std.specs.Prelude.{ℕ, Bool, true, false, List, [], ◌∷◌, ◌++◌, map, Option, Some, None, unwrap_or, codes, if◌then◌else◌, not}
use Rattle.std.specs.List.{filter_map}
use Rattle.name_tables.specs.name_numbers.Names.{is_among}
use Rattle.room_kinds.specs.declared.structure.PortKind.{PortKind}
use Rattle.room_kinds.specs.declared.structure.PortKind.TheVariants as kinds
use Rattle.room_ast.specs.Trees.{ActorTree}
use Rattle.room_ast.specs.declared.actor.InterfaceItem.{InterfaceItem}
use Rattle.room_ast.specs.declared.actor.InterfaceItem.TheVariants as interfaces
use Rattle.room_ast.specs.declared.actor.StructureItem.{StructureItem}
use Rattle.room_ast.specs.declared.actor.StructureItem.TheVariants as structures
use Rattle.room_ast.specs.declared.model_parts.entries.PortEntry.{PortEntry}
use Rattle.room_ast.specs.model_parts.Classes.{number_in}

-- The items of a class's Interface; none where it has none.
abbrev pub interface_of : ActorTree → List InterfaceItem
interface_of a = unwrap_or a.interface []

-- The items of a class's Structure; none where it has none.
abbrev pub structure_of : ActorTree → List StructureItem
structure_of a = unwrap_or a.structure []

-- The name of an interface port that the structure repeats as external.
abbrev pub external_name : StructureItem → Option (List ℕ)
external_name (structures.Usercode u) = None
external_name (structures.External e) = Some e.name
external_name (structures.Port p) = None
external_name (structures.Access s) = None
external_name (structures.Implementation i) = None
external_name (structures.Attribute a) = None
external_name (structures.Reference r) = None
external_name (structures.Binding b) = None
external_name (structures.Layer l) = None

-- The names of the interface ports that a class repeats as external.
abbrev pub external_names : ActorTree → List (List ℕ)
external_names a = filter_map external_name (structure_of a)

-- An interface port that the class repeats as external is an end port; the others are relay ports.
abbrev pub interface_kind : List (List ℕ) → List ℕ → PortKind
interface_kind externals name = if is_among externals name then kinds.End else kinds.Relay

-- The entry of a port or a service provision point of the Interface.
abbrev pub interface_entry : List (List ℕ) → List (List ℕ) → InterfaceItem → PortEntry
interface_entry protocols externals (interfaces.Port p) = record { kind = interface_kind externals p.name; conjugated = p.conjugated; places = p.places; protocol = number_in protocols p.protocol }
interface_entry protocols externals (interfaces.Service s) = record { kind = kinds.Spp; conjugated = false; places = None; protocol = number_in protocols s.protocol }

-- The entry of a port or a service access point of the Structure; its other items have none.
abbrev pub structure_entry : List (List ℕ) → StructureItem → Option PortEntry
structure_entry protocols (structures.Usercode u) = None
structure_entry protocols (structures.External e) = None
structure_entry protocols (structures.Port p) = Some (record { kind = kinds.Internal; conjugated = p.conjugated; places = p.places; protocol = number_in protocols p.protocol })
structure_entry protocols (structures.Access s) = Some (record { kind = kinds.Sap; conjugated = true; places = None; protocol = number_in protocols s.protocol })
structure_entry protocols (structures.Implementation i) = None
structure_entry protocols (structures.Attribute a) = None
structure_entry protocols (structures.Reference r) = None
structure_entry protocols (structures.Binding b) = None
structure_entry protocols (structures.Layer l) = None

-- The entry of the built-in port of the frame service.
abbrev pub frame_entry : PortEntry
frame_entry = record { kind = kinds.Frame; conjugated = false; places = None; protocol = None }

-- The ports of a class with these items in its Interface and its Structure: `frame`, then those of the Interface and then those of the Structure, in order of declaration. Each one's place here is its number. The first argument is the names of the model's protocol classes.
unfoldable pub ports_in : List (List ℕ) → List InterfaceItem → List StructureItem → List PortEntry
ports_in protocols interface structure =
    frame_entry ∷ (map (interface_entry protocols (filter_map external_name structure)) interface ++ filter_map (structure_entry protocols) structure)

-- The ports of an actor class, by number.
abbrev pub ports_of : List (List ℕ) → ActorTree → List PortEntry
ports_of protocols a = ports_in protocols (interface_of a) (structure_of a)

-- The name of a port or a service provision point of the Interface.
abbrev pub interface_name : InterfaceItem → List ℕ
interface_name (interfaces.Port p) = p.name
interface_name (interfaces.Service s) = s.name

-- The name of a port or a service access point of the Structure; its other items make no port.
abbrev pub structure_name : StructureItem → Option (List ℕ)
structure_name (structures.Usercode u) = None
structure_name (structures.External e) = None
structure_name (structures.Port p) = Some p.name
structure_name (structures.Access s) = Some s.name
structure_name (structures.Implementation i) = None
structure_name (structures.Attribute a) = None
structure_name (structures.Reference r) = None
structure_name (structures.Binding b) = None
structure_name (structures.Layer l) = None

abbrev pub frame_name : List ℕ
frame_name = codes "frame"

-- The names of the ports of a class with these items, by number.
unfoldable pub names_in : List InterfaceItem → List StructureItem → List (List ℕ)
names_in interface structure = frame_name ∷ (map interface_name interface ++ filter_map structure_name structure)

-- The names of the ports of an actor class, by number.
abbrev pub port_names : ActorTree → List (List ℕ)
port_names a = names_in (interface_of a) (structure_of a)

-- Whether other actors can be bound to the port from outside.
abbrev pub is_interface_port : PortKind → Bool
is_interface_port kinds.Frame = false
is_interface_port kinds.Relay = true
is_interface_port kinds.End = true
is_interface_port kinds.Internal = false
is_interface_port kinds.Sap = false
is_interface_port kinds.Spp = false

-- Whether a class binds this port of its own to ports of its references.
abbrev pub is_bound_inside : PortKind → Bool
is_bound_inside kinds.Frame = false
is_bound_inside kinds.Relay = true
is_bound_inside kinds.End = false
is_bound_inside kinds.Internal = true
is_bound_inside kinds.Sap = false
is_bound_inside kinds.Spp = false

-- Whether a port is conjugated as a binding of its own class sees it: a relay port is seen from inside, which is the reverse of its declaration.
abbrev pub conjugated_inside : PortEntry → Bool
conjugated_inside p = from p.kind
  where
    from : PortKind → Bool
    from kinds.Frame = p.conjugated
    from kinds.Relay = not p.conjugated
    from kinds.End = p.conjugated
    from kinds.Internal = p.conjugated
    from kinds.Sap = p.conjugated
    from kinds.Spp = p.conjugated
