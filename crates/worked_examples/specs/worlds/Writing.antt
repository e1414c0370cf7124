-- Short forms for the worked examples, and what it is to compute one.
use Rattle.std.specs.Prelude.{◌≡◌, ℕ, ℤ, pos, ◌+◌, Bool, false, ◌==◌, ◌&&◌, if◌then◌else◌, List, [], ◌∷◌, map, replicate, Option, Some, None, option_map, option_and_then}
use Rattle.std.specs.List.{range_with_len}
use Rattle.room_kinds.specs.declared.message.Msg.{Msg}
use Rattle.room_kinds.specs.declared.note.Note.{Note}
use Rattle.room_kinds.specs.declared.command.Command.{Command}
use Rattle.room_kinds.specs.declared.numbers.SlotId.{SlotId}
use Rattle.room_kinds.specs.declared.numbers.Incarnation.{Incarnation}
use Rattle.room_kinds.specs.declared.numbers.Endpoint.{Endpoint}
use Rattle.journal.specs.declared.entry.Did.{Did}
use Rattle.journal.specs.declared.entry.Entry.{Entry}
use Rattle.journal.specs.declared.entry.Entry.TheVariants as entry
use Rattle.room_wiring.specs.declared.tables.PlaceSpan.{PlaceSpan}
use Rattle.room_wiring.specs.declared.slot.Slot.{Slot}
use Rattle.room_kinds.specs.declared.structure.ReferenceKind.{ReferenceKind as Kind}
use Rattle.room_wiring.specs.declared.names.ClassNames.{ClassNames}
use Rattle.room_wiring.specs.declared.names.PortNames.{PortNames}
use Rattle.room_kinds.specs.declared.structure.PortKind.{PortKind}
use Rattle.actor_merge.specs.Mail.{event_of}
use Rattle.actor_merge.specs.Parties.{Line, Plant}
use Rattle.actor_merge.specs.World.{World, Placed, start, happens}
use Rattle.actor_duties.specs.Words.{incarnation}
use Rattle.actor_world.specs.Start.{plant_of, start_entries}
use Rattle.room_wiring.specs.declared.tables.Tables.{Tables}
use Rattle.actor_world.specs.Behaviour.{Behaviour, Handling, Handled, Unhandled}

-- a slot of a class and a kind, in its container, at its owner, with its reference and index; names
-- don't matter here
abbrev pub slot : ℕ → Kind → Option SlotId → ℕ → ℕ → ℕ → Slot
slot class kind parent owner reference index =
    record { path = []; class = class; kind = kind; parent = parent; owner = record { 0 = owner }; reference = reference; index = index }

-- a port of a kind and a protocol
abbrev pub port : PortKind → Option ℕ → PortNames
port kind protocol =
    record { name = []; kind = kind; conjugated = false; protocol = protocol; protocol_name = None; incoming = []; outgoing = [] }

-- a class with these ports
abbrev pub class : List PortNames → ClassNames
class ports = record { name = []; ports = ports; references = []; states = []; attributes = [] }

-- so many places of a port, from this row on
abbrev pub span : ℕ → ℕ → PlaceSpan
span first count = record { first = first; count = count }

-- so many ports with one place each, the places one after another
abbrev pub single_places : ℕ → List PlaceSpan
single_places count = map (λ row. span row 1) (range_with_len 0 count)

-- so many slots, of which none of so many controllers is told
abbrev pub told_nobody : ℕ → ℕ → List (List Bool)
told_nobody slots controllers = replicate slots (replicate controllers false)

-- a message
abbrev pub msg : ℕ → ℕ → ℕ → ℕ → Option Endpoint → Endpoint → ℕ → List ℤ → Msg
msg sender receiver priority stamp source target signal payload = record {
  from = record { 0 = sender };
  to = record { 0 = receiver };
  prio = record { 0 = priority };
  stamp = record { 0 = stamp };
  source = source;
  target = target;
  signal = signal;
  payload = payload;
}

-- a line of the environment in a part
abbrev pub line : ℕ → Msg → Line
line part m = record { part = part; message = m }

-- the post of a message by its sender
abbrev pub posted : Msg → Placed
posted m = record { party = m.from.0; entry = entry.Post m.stamp m }

-- the fetch of a message by its receiver
abbrev pub fetched : ℕ → Msg → Placed
fetched stamp m = record { party = m.to.0; entry = entry.Fetch (record { 0 = stamp }) m }

-- the turn of a message at its receiver
abbrev pub turned : ℕ → Msg → Did → List Note → Placed
turned stamp m what notes = record { party = m.to.0; entry = entry.Turn (record { 0 = stamp }) m.from m.stamp what notes }

-- how the journal of a controller begins on which the actor of slot 0 alone starts, in its state 0
abbrev pub starts_alone : List Entry
starts_alone = entry.Start (incarnation 0 1) 0 [] ∷ []

-- what an actor does at a message: the state after it, what it came to, and the commands
pub record Step : Type 0 where
  pub state : ℕ
  pub result : Handling
  pub commands : List Command

-- a behaviour by steps, over states as numbers; each actor begins in state 0, and these commands are
-- those of its initial transition
abbrev pub behaviour_of : (Incarnation → ℕ) → (Incarnation → List Command) → (Incarnation → ℕ → Msg → Step) → Behaviour ℕ
behaviour_of first initial step = record {
  begin = λ x. record { machine = first x; notes = []; commands = initial x };
  handle = λ x s m. record { machine = (step x s m).state; result = (step x s m).result; notes = []; commands = (step x s m).commands };
  state = λ s. s;
}

-- the first state of each actor where the one of slot 0 has no chart
abbrev pub chartless_top : Incarnation → ℕ
chartless_top x = if x.slot.0 == 0 then 65535 else 0

-- the entries that the definitions give, one after another, for the events that these entries name;
-- none where an event isn't allowed
abbrev pub computed : {B : Type 0} → Plant B → World B → List Placed → Option (List Entry)
computed plant w [] = Some []
computed plant w (x ∷ xs) =
    option_and_then (λ r. option_map (λ es. r.1 ∷ es) (computed plant r.0 xs)) (happens plant w x.party (event_of x.entry))

-- the entries that stand there
abbrev pub entries : List Placed → List Entry
entries xs = map (λ (x : Placed). x.entry) xs

-- the first of some numbers, 0 where there is none
abbrev pub first_of : List ℤ → ℤ
first_of [] = pos 0
first_of (n ∷ ns) = n

-- whether a message comes to this slot at this port
abbrev pub is_at : ℕ → ℕ → Msg → Bool
is_at s p m = (m.target.slot.0 == s) && (m.target.port == p)

-- a transition that stays in this state, with these commands
abbrev pub handled : ℕ → List Command → Step
handled state commands = record { state = state; result = Handled; commands = commands }

-- a message that no transition takes in this state
abbrev pub unhandled : ℕ → Step
unhandled state = record { state = state; result = Unhandled; commands = [] }

-- the entries with which so many controllers begin
abbrev pub starts_from : {M : Type 0} → Behaviour M → Tables → ℕ → List (List Entry) → List (List Entry)
starts_from model t c [] = []
starts_from model t c (x ∷ xs) = start_entries model t c ∷ starts_from model t (c + 1) xs

-- the definitions give these journals: how each controller begins, and then each entry of the merge
pub record IsComputed {M : Type 0} (model : Behaviour M) (t : Tables) (lines : List Line) (starts : List (List Entry)) (merge : List Placed) : Type 0 where
  pub begins : starts_from model t 0 starts ≡ starts
  pub run : computed (plant_of model t lines) (start (plant_of model t lines)) merge ≡ Some (entries merge)
