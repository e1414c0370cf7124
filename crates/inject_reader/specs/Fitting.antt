-- Lines that name what a wiring has: each message goes to a place of whoever stands in a slot that isn't imported,
-- its signal comes in there with as many numbers, and its priority is 1 to 5. Two answers to which places: those
-- that an injection text can name (`FitLines`), and all end places (`LinesFit`), where timeouts go, too.
use Rattle.std.specs.Prelude.{◌≡◌, ℕ, ℤ, ◌+◌, ◌<◌, ◌≤◌, Bool, true, false, List, IsTrue, Some, length, slice_get, option_and_then}
use Rattle.std.specs.List.{AllByRecursion}
use Rattle.room_kinds.specs.declared.numbers.Endpoint.{Endpoint}
use Rattle.room_kinds.specs.Structure.{is_end}
use Rattle.room_kinds.specs.declared.structure.PortKind.{PortKind}
use Rattle.room_kinds.specs.declared.structure.PortKind.TheVariants as ports
use Rattle.room_wiring.specs.declared.tables.Tables.{Tables}
use Rattle.room_wiring.specs.declared.slot.Slot.{Slot}
use Rattle.room_wiring.specs.declared.names.PortNames.{PortNames}
use Rattle.room_wiring.specs.declared.names.SignalNames.{SignalNames}
use Rattle.room_wiring.specs.Slots.{slot_at, class_of}
use Rattle.room_wiring.specs.Places.{place_count}
use Rattle.room_wiring.specs.wiring_names.Lookup.{port_of}
use Rattle.inject_reader.specs.declared.inject_lines.accepted.What.{What}
use Rattle.inject_reader.specs.declared.inject_lines.accepted.What.TheVariants as whats
use Rattle.inject_reader.specs.declared.inject_lines.accepted.Line.{Line}
use Rattle.inject_reader.specs.Meaning.{is_own, coming, first_coming}

-- a slot of the wiring that isn't an imported one
pub record IsOwnSlot (t : Tables) (s : ℕ) : Type 0 where
  pub slot : Slot
  pub slot_is : slot_at t s ≡ Some slot
  pub own : IsTrue (is_own slot.kind)

-- a place of an end port or internal end port of whoever stands in a slot
pub record IsTarget (t : Tables) (e : Endpoint) (port : PortNames) : Type 0 where
  pub slot : IsOwnSlot t e.slot.0
  pub port_is : option_and_then (port_of e.port) (class_of t e.slot.0) ≡ Some port
  pub end : IsTrue (is_end port.kind)
  pub place : e.place < place_count t e.slot.0 e.port
  pub whoever : e.generation.0 ≡ 0

-- a signal of this number comes in at a port, with so many numbers
pub record ComesIn (port : PortNames) (signal numbers : ℕ) : Type 0 where
  pub place : ℕ
  pub names : SignalNames
  pub names_is : slice_get (coming port) place ≡ Some names
  pub number : signal ≡ first_coming port + place
  pub carries : numbers ≡ length names.numbers

-- a message to a place of the wiring, with a signal that comes in there, at a priority from 1 to 5
pub record FitsMessage (t : Tables) (target : Endpoint) (signal : ℕ) (payload : List ℤ) (prio : ℕ) : Type 0 where
  pub port : PortNames
  pub target_fits : IsTarget t target port
  pub signal_fits : ComesIn port signal (length payload)
  pub least : 1 ≤ prio
  pub most : prio ≤ 5

abbrev pub FitsWhat : Tables → What → Type 0
FitsWhat t whats.Settle = Unit {0}
FitsWhat t (whats.Advance time) = Unit {0}
FitsWhat t (whats.Message target signal payload prio) = FitsMessage t target signal payload prio.0

-- each line names what an injection text can name
abbrev pub FitLines : Tables → List Line → Type 0
FitLines t lines = AllByRecursion (λ (l : Line). FitsWhat t l.what) lines

-- a line that doesn't move virtual time on
abbrev pub StandsStill : What → Type 0
StandsStill whats.Settle = Unit {0}
StandsStill (whats.Advance time) = ⊥
StandsStill (whats.Message target signal payload prio) = Unit {0}

-- no line moves virtual time on
abbrev pub AreUntimed : List Line → Type 0
AreUntimed lines = AllByRecursion (λ (l : Line). StandsStill l.what) lines

-- ---- end places of each kind

-- whether the places of such a port are end places: those of an end port, an internal end port, a service access
-- point and a service provision point are
abbrev pub has_end_places : PortKind → Bool
has_end_places ports.Frame = false
has_end_places ports.Relay = false
has_end_places ports.End = true
has_end_places ports.Internal = true
has_end_places ports.Sap = true
has_end_places ports.Spp = true

-- an end place of whoever stands in a slot that isn't imported
pub record IsEndPlace (t : Tables) (e : Endpoint) (port : PortNames) : Type 0 where
  pub slot : IsOwnSlot t e.slot.0
  pub port_is : option_and_then (port_of e.port) (class_of t e.slot.0) ≡ Some port
  pub kind : has_end_places port.kind ≡ true
  pub place : e.place < place_count t e.slot.0 e.port
  pub whoever : e.generation.0 ≡ 0

-- a message to an end place, with a signal that comes in there, at a priority from 1 to 5
pub record MessageFits (t : Tables) (target : Endpoint) (signal : ℕ) (payload : List ℤ) (prio : ℕ) : Type 0 where
  pub port : PortNames
  pub target_fits : IsEndPlace t target port
  pub signal_fits : ComesIn port signal (length payload)
  pub least : 1 ≤ prio
  pub most : prio ≤ 5

abbrev pub WhatFits : Tables → What → Type 0
WhatFits t whats.Settle = Unit {0}
WhatFits t (whats.Advance time) = Unit {0}
WhatFits t (whats.Message target signal payload prio) = MessageFits t target signal payload prio.0

-- each line names what the wiring has
abbrev pub LinesFit : Tables → List Line → Type 0
LinesFit t lines = AllByRecursion (λ (l : Line). WhatFits t l.what) lines

-- the lines that an injection text is read as do
abbrev pub ReadLinesFit : Type 0
ReadLinesFit = (t : Tables) (lines : List Line) → FitLines t lines → LinesFit t lines
