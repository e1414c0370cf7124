-- Journals whose numbers lie in the ranges of their types.
use Rattle.std.specs.Prelude.{ℕ, ◌<◌, ◌≤◌, List, Option, Some, None, All, length, ℤ, pos, negsuc}
use Rattle.room_kinds.specs.declared.numbers.Incarnation.{Incarnation}
use Rattle.room_kinds.specs.declared.numbers.Endpoint.{Endpoint}
use Rattle.room_kinds.specs.declared.message.Msg.{Msg}
use Rattle.room_kinds.specs.declared.note.Note.{Note}
use Rattle.room_kinds.specs.declared.note.Note.TheVariants as notes
use Rattle.journal.specs.declared.entry.Entry.{Entry}
use Rattle.journal.specs.declared.entry.Entry.TheVariants as entries
use Rattle.journal.specs.declared.entry.Did.{Did}
use Rattle.journal.specs.declared.entry.Did.TheVariants as outcomes
use Rattle.journal.specs.declared.entry.Left.{Left}
use Rattle.journal.specs.declared.entry.Journals.{Journals}

-- numbers without a sign of 8, 16, 32 and 64 bits
abbrev pub Is8Bit : ℕ → Type 0
Is8Bit n = n < 256

abbrev pub Is16Bit : ℕ → Type 0
Is16Bit n = n < 65536

abbrev pub Is32Bit : ℕ → Type 0
Is32Bit n = n < 4294967296

abbrev pub Is64Bit : ℕ → Type 0
Is64Bit n = n < 18446744073709551616

-- a number with a sign of 64 bits; `negsuc n` is -(n + 1)
abbrev pub IsSigned64 : ℤ → Type 0
IsSigned64 (pos n) = n < 9223372036854775808
IsSigned64 (negsuc n) = n < 9223372036854775808

-- an actor
pub record InRangeIncarnation (who : Incarnation) : Type 0 where
  pub slot : Is16Bit who.slot.0
  pub generation : Is32Bit who.generation.0

-- an endpoint
pub record InRangeEndpoint (e : Endpoint) : Type 0 where
  pub slot : Is16Bit e.slot.0
  pub generation : Is32Bit e.generation.0
  pub port : Is16Bit e.port
  pub place : Is32Bit e.place

-- the source of a message, if it has one
abbrev pub InRangeSource : Option Endpoint → Type 0
InRangeSource None = Unit {0}
InRangeSource (Some e) = InRangeEndpoint e

-- a message, with at most 64 numbers
pub record InRangeMsg (m : Msg) : Type 0 where
  pub from : Is8Bit m.from.0
  pub to : Is8Bit m.to.0
  pub prio : Is8Bit m.prio.0
  pub stamp : Is64Bit m.stamp.0
  pub source : InRangeSource m.source
  pub target : InRangeEndpoint m.target
  pub signal : Is16Bit m.signal
  pub numbers : All IsSigned64 m.payload
  pub few : length m.payload ≤ 64

-- an actor and its state
pub record InRangeStanding (who : Incarnation) (state : ℕ) : Type 0 where
  pub actor : InRangeIncarnation who
  pub state_fits : Is16Bit state

-- a note
abbrev pub InRangeNote : Note → Type 0
InRangeNote notes.Zero = Unit {0}
InRangeNote notes.NoMessage = Unit {0}
InRangeNote (notes.Unbound port place) = Is16Bit port × IsSigned64 place
InRangeNote (notes.Recall count) = Is64Bit count
InRangeNote (notes.Up who state) = InRangeStanding who state
InRangeNote (notes.Down who lost) = InRangeIncarnation who × Is64Bit lost

-- what a turn did
abbrev pub InRangeDid : Did → Type 0
InRangeDid outcomes.Duty = Unit {0}
InRangeDid (outcomes.Handled who state) = InRangeStanding who state
InRangeDid (outcomes.Deferred who state) = InRangeStanding who state
InRangeDid (outcomes.Unhandled who state) = InRangeStanding who state
InRangeDid (outcomes.Stale target) = InRangeIncarnation target
InRangeDid (outcomes.Empty target) = InRangeIncarnation target

-- a turn: when it was, whose message it took, what it did
pub record InRangeTurn (stamp from sent : ℕ) (did : Did) (ns : List Note) : Type 0 where
  pub stamped : Is64Bit stamp
  pub sender : Is8Bit from
  pub posted : Is64Bit sent
  pub outcome : InRangeDid did
  pub notes : All InRangeNote ns

-- an entry
abbrev pub InRangeEntry : Entry → Type 0
InRangeEntry (entries.Start who state ns) = InRangeStanding who state × All InRangeNote ns
InRangeEntry (entries.Fetch stamp m) = Is64Bit stamp.0 × InRangeMsg m
InRangeEntry (entries.Turn stamp from sent did ns) = InRangeTurn stamp.0 from.0 sent.0 did ns
InRangeEntry (entries.Post stamp m) = Is64Bit stamp.0 × InRangeMsg m

-- a message that was left
pub record InRangeLeft (l : Left) : Type 0 where
  pub receiver : Is8Bit l.to.0
  pub message : InRangeMsg l.msg

-- the journals of a run
pub record IsInRange (j : Journals) : Type 0 where
  pub controllers : All (λ (es : List Entry). All InRangeEntry es) j.controllers
  pub environment : All InRangeEntry j.environment
  pub left : All InRangeLeft j.left
  pub unposted : All Is32Bit j.unposted
