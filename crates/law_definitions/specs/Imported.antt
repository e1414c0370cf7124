-- What the class of an imported slot has in its Interface, in terms of the tables of the wiring. The rule on
-- imported references speaks of the classes of the model. The law `imported_slots_have_end_ports`: a port of an
-- imported slot is no relay port and no service provision point; `frame` has one place there, an end port of the
-- Interface as many as it declares, an internal end port and a service access point none. And each slot of the
-- class has that declared number of places at that end port: so has the home that is imported there.
use Rattle.std.specs.Prelude.{◌≡◌, ℕ, true, Option, Some, None, option_and_then, slice_get}
use Rattle.room_kinds.specs.Structure.{is_imported}
use Rattle.room_kinds.specs.declared.structure.PortKind.{PortKind}
use Rattle.room_kinds.specs.declared.structure.PortKind.TheVariants as ports
use Rattle.room_ast.specs.Trees.{ModelTree}
use Rattle.room_ast.specs.declared.actor.Places.{Places}
use Rattle.room_ast.specs.declared.actor.Places.TheVariants as places
use Rattle.room_ast.specs.declared.model_parts.entries.PortEntry.{PortEntry}
use Rattle.room_wiring.specs.declared.names.PortNames.{PortNames}
use Rattle.room_wiring.specs.declared.slot.Slot.{Slot}
use Rattle.room_wiring.specs.declared.tables.Tables.{Tables}
use Rattle.room_wiring.specs.Slots.{slot_at, port_at}
use Rattle.room_wiring.specs.Places.{place_count}
use Rattle.check_tables.specs.class_tables.Containers.{tables_of}
use Rattle.check_tables.specs.declared.class_tables.container.Container.{Container}
use Rattle.structure_check.specs.Rules.{first_broken}
use Rattle.structure_check.specs.List.{all_rules}
use Rattle.binding_expand.specs.Wirings.{IsWiringOf}

-- how many places a port declares: the number in its brackets, one where it has none; no number with `[*]`
abbrev pub declared_places : Option Places → Option ℕ
declared_places None = Some 1
declared_places (Some (places.Number n)) = Some n
declared_places (Some places.Any) = None

-- how many places port p of a class declares
abbrev pub declared_in : ℕ → Container → Option ℕ
declared_in p c = option_and_then (λ (e : PortEntry). declared_places e.places) (slice_get c.ports p)

-- the same of an actor class by its number
abbrev pub declared_at : ModelTree → ℕ → ℕ → Option ℕ
declared_at m class p = option_and_then (declared_in p) (slice_get (tables_of m).actors class)

-- port p of a class declares a number of places, and each slot of the class has so many there
pub record HasDeclaredPlaces (m : ModelTree) (t : Tables) (class p : ℕ) : Type 0 where
  pub number : ℕ
  pub declared : declared_at m class p ≡ Some number
  pub places : (s : ℕ) (x : Slot) → slot_at t s ≡ Some x → x.class ≡ class → place_count t s p ≡ number

-- what is so of port p of an imported slot of this class, by the kind of the port
abbrev pub FitsImport : ModelTree → Tables → ℕ → ℕ → ℕ → PortKind → Type 0
FitsImport m t s class p ports.Frame = place_count t s p ≡ 1
FitsImport m t s class p ports.Relay = ⊥
FitsImport m t s class p ports.End = HasDeclaredPlaces m t class p
FitsImport m t s class p ports.Internal = place_count t s p ≡ 0
FitsImport m t s class p ports.Sap = place_count t s p ≡ 0
FitsImport m t s class p ports.Spp = ⊥

-- over every model that keeps all rules, its wiring, and each port of each imported slot
abbrev pub ImportedSlotsHaveEndPorts : Type 0
ImportedSlotsHaveEndPorts =
    (m : ModelTree) (t : Tables) → first_broken all_rules m ≡ None → IsWiringOf m t
    → (s p : ℕ) (x : Slot) (port : PortNames) → slot_at t s ≡ Some x → is_imported x.kind ≡ true → port_at t s p ≡ Some port
    → FitsImport m t s x.class p port.kind
