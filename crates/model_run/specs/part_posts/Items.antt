-- The items of an injection text on a plant.
use Rattle.std.specs.Prelude.{ℕ, ℤ, List, map, None}
use Rattle.room_kinds.specs.declared.message.Msg.{Msg}
use Rattle.room_kinds.specs.declared.numbers.Endpoint.{Endpoint}
use Rattle.room_kinds.specs.declared.numbers.Priority.{Priority}
use Rattle.room_wiring.specs.declared.tables.Tables.{Tables}
use Rattle.inject_reader.specs.declared.inject_lines.accepted.Line.{Line}
use Rattle.inject_reader.specs.declared.inject_lines.accepted.What.{What}
use Rattle.inject_reader.specs.declared.inject_lines.accepted.What.TheVariants as whats
use Rattle.actor_duties.specs.Words.{owner_of}
use Rattle.actor_world.specs.Journals.{Item, Message, Settle}

-- a message from outside, to the owner of its target; its sender and its stamp are those of its post
abbrev pub injected : Tables → Endpoint → ℕ → List ℤ → Priority → Msg
injected t target signal payload prio = record {
  from = record { 0 = 0 };
  to = record { 0 = owner_of t target.slot.0 };
  prio = prio;
  stamp = record { 0 = 0 };
  source = None;
  target = target;
  signal = signal;
  payload = payload;
}

-- what a line asks for, under its number: an `advance` is a `settle`, and its time is for the source of the lines
abbrev pub item_of : Tables → ℕ → What → Item
item_of t number whats.Settle = Settle number
item_of t number (whats.Advance time) = Settle number
item_of t number (whats.Message target signal payload prio) = Message number (injected t target signal payload prio)

-- the items of an injection text
abbrev pub items_of : Tables → List Line → List Item
items_of t lines = map (λ (l : Line). item_of t l.number l.what) lines
