-- The fields of lines. A name that the wiring doesn't have is read as number 0.
use Rattle.std.specs.Prelude.{ℕ, List, ◌==◌, if◌then◌else◌, Option, Some, None, option_map, unwrap_or, length, codes}
use Rattle.name_tables.specs.name_numbers.Names.{same}
use Rattle.room_kinds.specs.declared.numbers.Incarnation.{Incarnation}
use Rattle.room_kinds.specs.declared.numbers.Endpoint.{Endpoint}
use Rattle.room_kinds.specs.declared.numbers.SlotId.{SlotId}
use Rattle.room_kinds.specs.Kinds.{number_of}
use Rattle.room_kinds.specs.Names.{kind_named}
use Rattle.room_wiring.specs.declared.tables.Tables.{Tables}
use Rattle.room_wiring.specs.wiring_names.Lookup.{slot_called, port_called, state_called, signal_called}
use Rattle.journal_reader.specs.journal_lines.Numerals.{upto, past, begins, byte_in, word_in}

-- a controller's number, or the environment's
unfoldable pub party_in : Tables → List ℕ → ℕ
party_in t w = if same w (codes "env") then length t.controllers else byte_in w

-- `path#generation`
unfoldable pub incarnation_in : Tables → List ℕ → Incarnation
incarnation_in t s = record {
  slot = record { 0 = slot_called t (upto 35 s) };
  generation = record { 0 = word_in (upto 32 (past 35 s)) };
}

-- what stands behind an incarnation and a blank
abbrev pub after_incarnation : List ℕ → List ℕ
after_incarnation s = past 32 (past 35 s)

-- what stands in an endpoint behind the path, behind the generation, and behind the port
abbrev pub after_path : List ℕ → List ℕ
after_path s = past 35 s

abbrev pub after_generation : List ℕ → List ℕ
after_generation s = past 46 (past 35 s)

abbrev pub after_port : List ℕ → List ℕ
after_port s = past 91 (past 46 (past 35 s))

-- what stands behind an endpoint and a blank
abbrev pub after_endpoint : List ℕ → List ℕ
after_endpoint s = past 32 (past 93 (past 91 (past 46 (past 35 s))))

-- `path#generation.port[place]`
unfoldable pub endpoint_in : Tables → List ℕ → Endpoint
endpoint_in t s = record {
  slot = record { 0 = slot_called t (upto 35 s) };
  generation = record { 0 = word_in (upto 46 (after_path s)) };
  port = port_called t (slot_called t (upto 35 s)) (upto 91 (after_generation s));
  place = word_in (upto 93 (after_port s));
}

-- an endpoint, or `-`
unfoldable pub source_in : Tables → List ℕ → Option Endpoint
source_in t s = if begins 45 s then None else Some (endpoint_in t s)

-- what stands behind a source and a blank
unfoldable pub after_source : List ℕ → List ℕ
after_source s = if begins 45 s then past 32 s else after_endpoint s

-- a state's label, or `-`
unfoldable pub state_in : Tables → ℕ → List ℕ → ℕ
state_in t slot w = if same w (codes "-") then 65535 else state_called t slot w

-- the number of the kind of system messages with a name; 0 where there is none
unfoldable pub kind_in : List ℕ → ℕ
kind_in w = unwrap_or (option_map number_of (kind_named w)) 0

-- a message's signal: a kind at priority 0, else a signal of the target's port
unfoldable pub signal_in : Tables → ℕ → Endpoint → List ℕ → ℕ
signal_in t prio target w = if prio == 0 then kind_in w else signal_called t target.slot.0 target.port w

-- the port of a note `unbound`, at the class of who speaks
unfoldable pub speaking_port_in : Tables → Option SlotId → List ℕ → ℕ
speaking_port_in t None w = 0
speaking_port_in t (Some s) w = port_called t s.0 w
