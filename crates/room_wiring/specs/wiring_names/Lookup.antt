-- The numbers of names at a wiring. A name that isn't there has the number 0.
use Rattle.std.specs.Prelude.{ℕ, List, [], ◌∷◌, ◌++◌, Option, Some, None, map, position, nat_lt, if◌then◌else◌, slice_get, option_and_then}
use Rattle.std.specs.Option.{option_map_or}
use Rattle.name_tables.specs.name_numbers.Names.{same, is_among}
use Rattle.room_wiring.specs.declared.tables.Tables.{Tables}
use Rattle.room_wiring.specs.declared.slot.Slot.{Slot}
use Rattle.room_wiring.specs.declared.names.ClassNames.{ClassNames}
use Rattle.room_wiring.specs.declared.names.PortNames.{PortNames}
use Rattle.room_wiring.specs.declared.names.SignalNames.{SignalNames}
use Rattle.room_wiring.specs.Slots.{class_of}
use Rattle.room_wiring.specs.WellNamed.{signals_of}

-- names with another one, if it isn't among them
abbrev pub added : List (List ℕ) → List ℕ → List (List ℕ)
added names name = if is_among names name then names else (names ++ name ∷ [])

-- names with others, one after another
abbrev pub numbering : List (List ℕ) → List (List ℕ) → List (List ℕ)
numbering names [] = names
numbering names (n ∷ ns) = numbering (added names n) ns

-- names without those that stand there before
unfoldable pub numbered : List (List ℕ) → List (List ℕ)
numbered names = numbering [] names

-- the paths of the slots
abbrev pub slot_paths : Tables → List (List ℕ)
slot_paths t = map (λ (x : Slot). x.path) t.slots

-- the names of a class's ports
abbrev pub port_names : ClassNames → List (List ℕ)
port_names c = map (λ (x : PortNames). x.name) c.ports

-- the names of a port's signals, incoming ones first
abbrev pub signal_names : PortNames → List (List ℕ)
signal_names p = map (λ (x : SignalNames). x.name) (signals_of p)

-- those names, numbered
abbrev pub signal_table : PortNames → List (List ℕ)
signal_table p = numbered (signal_names p)

-- a place that a `u16` holds; 0 for another one, and where there is none
abbrev pub narrowed : Option ℕ → ℕ
narrowed None = 0
narrowed (Some i) = if nat_lt i 65536 then i else 0

-- the place of a name among names
unfoldable pub place_of : List (List ℕ) → List ℕ → ℕ
place_of names name = narrowed (position (same name) names)

-- the number of the first slot with a path
abbrev pub slot_called : Tables → List ℕ → ℕ
slot_called t path = place_of (slot_paths t) path

-- the number of a port of a class
abbrev pub port_in : List ℕ → ClassNames → ℕ
port_in name c = place_of (numbered (port_names c)) name

-- the number of a port of a slot
unfoldable pub port_called : Tables → ℕ → List ℕ → ℕ
port_called t s name = option_map_or (port_in name) (class_of t s) 0

-- the number of a state of a class
abbrev pub state_in : List ℕ → ClassNames → ℕ
state_in label c = place_of (numbered c.states) label

-- the number of a state of a slot
unfoldable pub state_called : Tables → ℕ → List ℕ → ℕ
state_called t s label = option_map_or (state_in label) (class_of t s) 0

-- the number of a signal of a port
abbrev pub signal_in : List ℕ → PortNames → ℕ
signal_in name p = place_of (signal_table p) name

-- the port of a number at a class
abbrev pub port_of : ℕ → ClassNames → Option PortNames
port_of p c = slice_get c.ports p

-- the number of a signal of a port of a slot
unfoldable pub signal_called : Tables → ℕ → ℕ → List ℕ → ℕ
signal_called t s p name = option_map_or (signal_in name) (option_and_then (port_of p) (class_of t s)) 0
