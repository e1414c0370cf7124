-- What a layer connection must name.
use Rattle.std.specs.Prelude.{ℕ, Bool, true, false, not, ◌&&◌, List}
use Rattle.std.specs.Option.{option_map_or}
use Rattle.room_kinds.specs.declared.structure.PortKind.{PortKind}
use Rattle.room_kinds.specs.declared.structure.PortKind.TheVariants as ports
use Rattle.room_ast.specs.declared.actor.LayerConnection.{LayerConnection}
use Rattle.room_ast.specs.model_parts.References.{is_replicated}
use Rattle.room_ast.specs.declared.model_parts.entries.PortEntry.{PortEntry}
use Rattle.room_ast.specs.declared.model_parts.entries.ReferenceEntry.{ReferenceEntry}
use Rattle.check_tables.specs.declared.class_tables.container.Container.{Container}
use Rattle.room_kinds.specs.Structure.{is_imported}
use Rattle.check_bindings.specs.binding_rules.Parts.{reference_named, port_behind}

abbrev pub is_spp : PortKind → Bool
is_spp ports.Frame = false
is_spp ports.Relay = false
is_spp ports.End = false
is_spp ports.Internal = false
is_spp ports.Sap = false
is_spp ports.Spp = true

-- Whether a reference can be connected: it isn't imported.
abbrev pub is_connectable : ReferenceEntry → Bool
is_connectable r = not (is_imported r.kind)

-- Whether a reference provides the service with this name: it is neither imported nor replicated, and its class has a SPP with the name.
abbrev pub provides : List Container → List ℕ → ReferenceEntry → Bool
provides actors service r = not (is_imported r.kind) && not (is_replicated r) && option_map_or (λ (p : PortEntry). is_spp p.kind) (port_behind actors r service) false

-- A layer connection names a reference of its class that isn't imported, and a SPP of a reference of its class that is neither imported nor replicated.
abbrev pub layer_is_known : List Container → Container → LayerConnection → Bool
layer_is_known actors c l = option_map_or is_connectable (reference_named c l.reference) false && option_map_or (provides actors l.service) (reference_named c l.provider) false
