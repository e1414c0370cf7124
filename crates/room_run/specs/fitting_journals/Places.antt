-- From where to where messages are posted.
-- `NamesItsPlaces`: the source and the target of each message that is posted are places of ports of the wiring's
-- slots; and a message that found nobody was for a slot of the wiring. A place of a port (`IsPlace`) is one that the
-- wiring gives it; or the one place of a service access point; or, at a service provision point, a place that was
-- linked by name in the same run (`WasLinked`), and in a system message place 0, with which the point goes for a name.
-- It is so of every run of a plant that fits, over lines that fit (`fitting_runs_journals`).
use Rattle.std.specs.Prelude.{◌≡◌, ℕ, ◌<◌, true, List, Option, Some, None, Contains, length, slice_get}
use Rattle.room_kinds.specs.Kinds.{number_of}
use Rattle.room_kinds.specs.declared.message.Msg.{Msg}
use Rattle.room_kinds.specs.declared.numbers.Endpoint.{Endpoint}
use Rattle.room_kinds.specs.declared.system.SysKind.TheVariants as kinds
use Rattle.room_wiring.specs.Places.{port_count, place_count}
use Rattle.room_wiring.specs.declared.tables.Tables.{Tables}
use Rattle.journal.specs.Fits.{FitsIncarnation}
use Rattle.journal.specs.declared.entry.Did.{Did}
use Rattle.journal.specs.declared.entry.Did.TheVariants as outcomes
use Rattle.journal.specs.declared.entry.Entry.{Entry}
use Rattle.journal.specs.declared.entry.Entry.TheVariants as entry
use Rattle.journal.specs.declared.entry.Journals.{Journals}
use Rattle.actor_duties.specs.Words.{is_sap, is_spp}
use Rattle.law_runs.specs.Mail.{posted}

-- ---- places that were linked

-- a message tells of a place that it is linked: it is a Bound to the place
pub record IsBoundTo (s p k : ℕ) (m : Msg) : Type 0 where
  pub system : m.prio.0 ≡ 0
  pub kind : m.signal ≡ number_of kinds.Bound
  pub slot : m.target.slot.0 ≡ s
  pub port : m.target.port ≡ p
  pub place : m.target.place ≡ k

-- place k of port p of slot s was linked: controller 0, which keeps the name table, posted a Bound to it
pub record WasLinked (j : Journals) (s p k : ℕ) : Type 0 where
  pub journal : List Entry
  pub journal_is : slice_get j.controllers 0 ≡ Some journal
  pub message : Msg
  pub was_posted : Contains (posted journal) message
  pub bound : IsBoundTo s p k message

-- ---- places of ports

-- port p of slot s has a place k for messages of a priority, where such places were linked: the wiring gives it; or it
-- is the one place of a service access point; or, of a service provision point, one that was linked, or, for system
-- messages, place 0
pub data IsPlace (t : Tables) (linked : ℕ → ℕ → ℕ → Type 0) (prio s p k : ℕ) : Type 0 where
  given : k < place_count t s p → IsPlace t linked prio s p k
  of_user : is_sap t s p ≡ true → k ≡ 0 → IsPlace t linked prio s p k
  by_name : is_spp t s p ≡ true → linked s p k → IsPlace t linked prio s p k
  of_provider : is_spp t s p ≡ true → k ≡ 0 → prio ≡ 0 → IsPlace t linked prio s p k

-- a place of a port of a slot, for messages of a priority
pub record FitsPlace (t : Tables) (linked : ℕ → ℕ → ℕ → Type 0) (prio : ℕ) (e : Endpoint) : Type 0 where
  pub slot : e.slot.0 < length t.slots
  pub port : e.port < port_count t e.slot.0
  pub place : IsPlace t linked prio e.slot.0 e.port e.place

-- where there is a source, it is such a place
abbrev pub SourceFits : Tables → (ℕ → ℕ → ℕ → Type 0) → ℕ → Option Endpoint → Type 0
SourceFits t linked prio None = Unit {0}
SourceFits t linked prio (Some e) = FitsPlace t linked prio e

-- ---- messages

-- a message's source and target are places of the wiring, or places that were linked in the run of these journals
pub record NamesPlaces (t : Tables) (j : Journals) (m : Msg) : Type 0 where
  pub source : SourceFits t (WasLinked j) m.prio.0 m.source
  pub target : FitsPlace t (WasLinked j) m.prio.0 m.target

-- where a message found nobody, its slot is one of the wiring
abbrev pub FitsNobody : Tables → Did → Type 0
FitsNobody t outcomes.Duty = Unit {0}
FitsNobody t (outcomes.Handled who state) = Unit {0}
FitsNobody t (outcomes.Deferred who state) = Unit {0}
FitsNobody t (outcomes.Unhandled who state) = Unit {0}
FitsNobody t (outcomes.Stale target) = Unit {0}
FitsNobody t (outcomes.Empty target) = FitsIncarnation t target

-- so are those of what an entry posts, and the slot of a turn's message that found nobody
abbrev pub NamesItsPlaces : Tables → Journals → Entry → Type 0
NamesItsPlaces t j (entry.Start who state notes) = Unit {0}
NamesItsPlaces t j (entry.Fetch stamp m) = Unit {0}
NamesItsPlaces t j (entry.Turn stamp from sent did notes) = FitsNobody t did
NamesItsPlaces t j (entry.Post stamp m) = NamesPlaces t j m
