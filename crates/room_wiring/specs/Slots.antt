-- What the tables of a wiring say of slots and classes.
use Rattle.std.specs.Prelude.{ℕ, List, [], Option, slice_get, position, nat_eq, option_map, option_and_then, unwrap_or}
use lib.Pointwise.{pointwise}
use Rattle.room_wiring.specs.declared.tables.Tables.{Tables}
use Rattle.room_wiring.specs.declared.slot.Slot.{Slot}
use Rattle.room_wiring.specs.declared.names.ClassNames.{ClassNames}
use Rattle.room_wiring.specs.declared.names.PortNames.{PortNames}

-- the slot of a number
abbrev pub slot_at : Tables → ℕ → Option Slot
slot_at t s = slice_get t.slots s

-- the class of a number
abbrev pub class_at : Tables → ℕ → Option ClassNames
class_at t c = slice_get t.classes c

-- the class of a slot
unfoldable pub class_of : Tables → ℕ → Option ClassNames
class_of t s = option_and_then (λ (x : Slot). class_at t x.class) (slot_at t s)

-- the port of a number at a slot: one of its class
unfoldable pub port_at : Tables → ℕ → ℕ → Option PortNames
port_at t s p = option_and_then (λ (c : ClassNames). slice_get c.ports p) (class_of t s)

-- the path of a slot; nothing where there is no such slot
unfoldable pub path_text : Tables → ℕ → List ℕ
path_text t s = unwrap_or (option_map (λ (x : Slot). x.path) (slot_at t s)) []

-- the name of a port of a slot; nothing where there is no such port
unfoldable pub port_text : Tables → ℕ → ℕ → List ℕ
port_text t s p = unwrap_or (option_map (λ (x : PortNames). x.name) (port_at t s p)) []

-- the number of the first slot with this path
unfoldable pub slot_named : Tables → List ℕ → Option ℕ
slot_named t path = position (λ (x : Slot). pointwise nat_eq x.path path) t.slots
