-- What the names in bindings and layer connections name.
use Rattle.std.specs.Prelude.{ℕ, List, Option, slice_get, position, option_and_then}
use Rattle.name_tables.specs.name_numbers.Names.{same}
use Rattle.room_ast.specs.declared.model_parts.entries.PortEntry.{PortEntry}
use Rattle.room_ast.specs.declared.model_parts.entries.ReferenceEntry.{ReferenceEntry}
use Rattle.check_tables.specs.declared.class_tables.container.Container.{Container}

-- The port of a class with this name, if it has one; the first one, if it has several.
abbrev pub port_named : Container → List ℕ → Option PortEntry
port_named c name = option_and_then (slice_get c.ports) (position (same name) c.port_names)

-- The reference of a class with this name, if it has one; the first one, if it has several.
abbrev pub reference_named : Container → List ℕ → Option ReferenceEntry
reference_named c name = option_and_then (slice_get c.references) (position (same name) c.reference_names)

-- The class of a reference among the actor classes, if it is known.
abbrev pub class_of : List Container → ReferenceEntry → Option Container
class_of actors r = option_and_then (slice_get actors) r.class

-- The port with this name of the class of a reference, if there is one.
abbrev pub port_behind : List Container → ReferenceEntry → List ℕ → Option PortEntry
port_behind actors r name = option_and_then (λ (c : Container). port_named c name) (class_of actors r)
