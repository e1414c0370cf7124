-- The classes of imported references.
use Rattle.std.specs.Prelude.{ℕ, Bool, true, false, not, ◌&&◌, ◌||◌, List, map, Option, slice_get, unwrap_or, option_and_then}
use Rattle.std.specs.List.{list_all}
use Rattle.room_kinds.specs.declared.structure.PortKind.{PortKind}
use Rattle.room_kinds.specs.declared.structure.PortKind.TheVariants as ports
use Rattle.room_kinds.specs.Structure.{is_imported}
use Rattle.room_ast.specs.declared.model_parts.entries.PortEntry.{PortEntry}
use Rattle.room_ast.specs.declared.model_parts.entries.ReferenceEntry.{ReferenceEntry}
use Rattle.check_tables.specs.declared.class_tables.container.Container.{Container}
use Rattle.check_tables.specs.declared.class_tables.tables.Tables.{Tables}
use Rattle.check_bindings.specs.structure_rules.AnyPlaces.{is_any}

-- Whether a class that has this port can be imported: of the Interface's ports, an end port may have a number or none, a relay port or a SPP may not stand there. Ports that aren't of the Interface are free.
abbrev pub fits_import : PortEntry → Bool
fits_import p = at p.kind
  where
    at : PortKind → Bool
    at ports.Frame = true
    at ports.Relay = false
    at ports.End = not (is_any p.places)
    at ports.Internal = true
    at ports.Sap = true
    at ports.Spp = false

-- Whether a class has in its Interface only end ports with a number or none, and no SPP.
abbrev pub can_be_imported : Container → Bool
can_be_imported c = list_all fits_import c.ports

-- Whether the class of this number can be imported, where the list tells it of each class. A number that no class has is passed over.
abbrev pub is_importable : List Bool → Option ℕ → Bool
is_importable importable class = unwrap_or (option_and_then (slice_get importable) class) true

-- Whether the class of each imported reference of a class can be imported.
abbrev pub imports_fit : List Bool → Container → Bool
imports_fit importable c = list_all (λ (r : ReferenceEntry). not (is_imported r.kind) || is_importable importable r.class) c.references

-- Whether each actor class, by its number, can be imported.
abbrev pub importable_classes : Tables → List Bool
importable_classes t = map can_be_imported t.actors

-- The class of each imported reference has in its Interface only end ports with a number or none, and no SPP.
unfoldable pub imported_classes_have_end_ports : Tables → Bool
imported_classes_have_end_ports t = list_all (imports_fit (importable_classes t)) t.actors && list_all (imports_fit (importable_classes t)) t.subsystems
