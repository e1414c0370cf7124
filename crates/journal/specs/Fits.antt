-- Journals that speak of what a wiring has.
use Rattle.std.specs.Prelude.{◌≡◌, ℕ, ◌+◌, ◌*◌, ◌<◌, ◌≤◌, List, [], ◌∷◌, Bool, false, if◌then◌else◌, nat_lt, ◌⊎◌, Option, Some, None, All, length, slice_get, map}
use Rattle.std.specs.List.Sorted.{IsNonDecreasing}
use Rattle.room_kinds.specs.declared.numbers.Incarnation.{Incarnation}
use Rattle.room_kinds.specs.declared.numbers.SlotId.{SlotId}
use Rattle.room_kinds.specs.declared.numbers.Endpoint.{Endpoint}
use Rattle.room_kinds.specs.declared.message.Msg.{Msg}
use Rattle.room_kinds.specs.declared.note.Note.{Note}
use Rattle.room_kinds.specs.declared.note.Note.TheVariants as notes
use Rattle.room_wiring.specs.declared.tables.Tables.{Tables}
use Rattle.room_wiring.specs.declared.names.ClassNames.{ClassNames}
use Rattle.room_wiring.specs.declared.names.PortNames.{PortNames}
use Rattle.room_wiring.specs.Slots.{class_of, port_at}
use Rattle.room_wiring.specs.Places.{port_count}
use Rattle.room_wiring.specs.WellNamed.{signals_of}
use Rattle.journal.specs.declared.entry.Entry.{Entry}
use Rattle.journal.specs.declared.entry.Entry.TheVariants as entries
use Rattle.journal.specs.declared.entry.Did.{Did}
use Rattle.journal.specs.declared.entry.Did.TheVariants as outcomes
use Rattle.journal.specs.declared.entry.Left.{Left}
use Rattle.journal.specs.declared.entry.Journals.{Journals}
use Rattle.journal.specs.Lines.{speaker_after, is_duty, speaker_of}

-- a controller's number, or the environment's
pub record IsParty (t : Tables) (c : ℕ) : Type 0 where
  pub known : c ≤ length t.controllers

-- an actor that may have stood in a slot of the wiring
pub record FitsIncarnation (t : Tables) (who : Incarnation) : Type 0 where
  pub slot : who.slot.0 < length t.slots

-- a place of a port of a slot
pub record FitsEndpoint (t : Tables) (e : Endpoint) : Type 0 where
  pub slot : e.slot.0 < length t.slots
  pub port : e.port < port_count t e.slot.0

-- where there is a source, it is one that the wiring has
abbrev pub FitsSource : Tables → Option Endpoint → Type 0
FitsSource t None = Unit {0}
FitsSource t (Some e) = FitsEndpoint t e

-- a signal of a port
pub record HasSignal (t : Tables) (s p signal : ℕ) : Type 0 where
  pub port : PortNames
  pub port_is : port_at t s p ≡ Some port
  pub known : signal < length (signals_of port)

-- a kind of system messages at priority 0, else a signal of the target's port
abbrev pub FitsSignal : Tables → ℕ → Endpoint → ℕ → Type 0
FitsSignal t prio target signal =
    ((prio ≡ 0) × (signal < 19)) ⊎ ((1 ≤ prio) × HasSignal t target.slot.0 target.port signal)

-- a message whose parties, endpoints and signal the wiring has
pub record FitsMessage (t : Tables) (m : Msg) : Type 0 where
  pub from : IsParty t m.from.0
  pub to : m.to.0 < length t.controllers
  pub source : FitsSource t m.source
  pub target : FitsEndpoint t m.target
  pub signal : FitsSignal t m.prio.0 m.target m.signal

-- a state of the slot's class; 65,535 at a class that has none
pub record FitsState (t : Tables) (s state : ℕ) : Type 0 where
  pub class : ClassNames
  pub class_is : class_of t s ≡ Some class
  pub known : (state < length class.states) ⊎ ((class.states ≡ []) × (state ≡ 65535))

-- an actor and its state
pub record FitsStanding (t : Tables) (who : Incarnation) (state : ℕ) : Type 0 where
  pub actor : FitsIncarnation t who
  pub stands : FitsState t who.slot.0 state

-- the port of a note `unbound` is one of who speaks
abbrev pub FitsSpeaker : Tables → Option SlotId → ℕ → Type 0
FitsSpeaker t None port = ⊥
FitsSpeaker t (Some s) port = (s.0 < length t.slots) × (port < port_count t s.0)

-- a note of who speaks
abbrev pub FitsNote : Tables → Option SlotId → Note → Type 0
FitsNote t speaker notes.Zero = Unit {0}
FitsNote t speaker notes.NoMessage = Unit {0}
FitsNote t speaker (notes.Unbound port place) = FitsSpeaker t speaker port
FitsNote t speaker (notes.Recall count) = Unit {0}
FitsNote t speaker (notes.Up who state) = FitsStanding t who state
FitsNote t speaker (notes.Down who lost) = FitsIncarnation t who

-- notes, each of who speaks by then
abbrev pub FitsNotes : Tables → Bool → Option SlotId → List Note → Type 0
FitsNotes t duty speaker [] = Unit {0}
FitsNotes t duty speaker (n ∷ ns) = FitsNote t speaker n × FitsNotes t duty (speaker_after duty speaker n) ns

-- what a turn did, to an actor that the wiring has
abbrev pub FitsDid : Tables → Did → Type 0
FitsDid t outcomes.Duty = Unit {0}
FitsDid t (outcomes.Handled who state) = FitsStanding t who state
FitsDid t (outcomes.Deferred who state) = FitsStanding t who state
FitsDid t (outcomes.Unhandled who state) = FitsStanding t who state
FitsDid t (outcomes.Stale target) = FitsIncarnation t target
FitsDid t (outcomes.Empty target) = FitsIncarnation t target

-- a post of this party, stamped when it was posted
pub record FitsPost (t : Tables) (party stamp : ℕ) (m : Msg) : Type 0 where
  pub message : FitsMessage t m
  pub own : m.from.0 ≡ party
  pub stamped : m.stamp.0 ≡ stamp

-- an entry in the journal of this controller
abbrev pub FitsEntry : Tables → ℕ → Entry → Type 0
FitsEntry t c (entries.Start who state notes) = FitsStanding t who state × FitsNotes t false (Some who.slot) notes
FitsEntry t c (entries.Fetch stamp m) = (m.to.0 ≡ c) × FitsMessage t m
FitsEntry t c (entries.Turn stamp from sent did notes) =
    IsParty t from.0 × FitsDid t did × FitsNotes t (is_duty did) (speaker_of did) notes
FitsEntry t c (entries.Post stamp m) = FitsPost t c stamp.0 m

-- an entry in the environment's journal: it only posts
abbrev pub FitsEnvironment : Tables → Entry → Type 0
FitsEnvironment t (entries.Start who state notes) = ⊥
FitsEnvironment t (entries.Fetch stamp m) = ⊥
FitsEnvironment t (entries.Turn stamp from sent did notes) = ⊥
FitsEnvironment t (entries.Post stamp m) = FitsPost t (length t.controllers) stamp.0 m

-- a message left to its receiver, at a priority that has a list
pub record FitsLeft (t : Tables) (l : Left) : Type 0 where
  pub message : FitsMessage t l.msg
  pub receiver : l.msg.to.0 ≡ l.to.0
  pub priority : l.msg.prio.0 ≤ 5

-- among the lanes of one priority the environment's is first, then the controllers' ascending
abbrev pub sender_rank : Tables → ℕ → ℕ
sender_rank t from = if nat_lt from (length t.controllers) then 1 + from else 0

-- the order of what was left: by receiver; what is pending first, then the lanes; by priority; lanes by sender
abbrev pub left_rank : Tables → Left → ℕ
left_rank t l =
    let lists = 6 * (1 + length t.controllers) in
    let sender = if l.pending then 0 else lists + sender_rank t l.msg.from.0 in
    2 * lists * l.to.0 + (1 + length t.controllers) * l.msg.prio.0 + sender

-- one journal for each controller; each names what the wiring has; what was left is in order
pub record Fits (t : Tables) (j : Journals) : Type 0 where
  pub journals : length j.controllers ≡ length t.controllers
  pub entries : (c : ℕ) (es : List Entry) → slice_get j.controllers c ≡ Some es → All (FitsEntry t c) es
  pub environment : All (FitsEnvironment t) j.environment
  pub left : All (FitsLeft t) j.left
  pub left_in_order : IsNonDecreasing (map (left_rank t) j.left)
