-- Whether journals speak of what a wiring has.
use Rattle.std.specs.Prelude.{ℕ, suc, ◌==◌, nat_lt, nat_le, ◌&&◌, Bool, true, false, List, [], ◌∷◌, Option, Some, None, if◌then◌else◌, length, map}
use Rattle.std.specs.Option.{option_map_or}
use Rattle.std.specs.List.{list_all}
use Rattle.room_kinds.specs.declared.numbers.Incarnation.{Incarnation}
use Rattle.room_kinds.specs.declared.numbers.SlotId.{SlotId}
use Rattle.room_kinds.specs.declared.numbers.Endpoint.{Endpoint}
use Rattle.room_kinds.specs.declared.message.Msg.{Msg}
use Rattle.room_kinds.specs.declared.note.Note.{Note}
use Rattle.room_kinds.specs.declared.note.Note.TheVariants as notes
use Rattle.room_wiring.specs.declared.tables.Tables.{Tables}
use Rattle.room_wiring.specs.declared.names.ClassNames.{ClassNames}
use Rattle.room_wiring.specs.declared.names.PortNames.{PortNames}
use Rattle.room_wiring.specs.Slots.{class_of, port_at}
use Rattle.room_wiring.specs.Places.{port_count}
use Rattle.room_wiring.specs.WellNamed.{signals_of}
use Rattle.journal.specs.declared.entry.Entry.{Entry}
use Rattle.journal.specs.declared.entry.Entry.TheVariants as entries
use Rattle.journal.specs.declared.entry.Did.{Did}
use Rattle.journal.specs.declared.entry.Did.TheVariants as outcomes
use Rattle.journal.specs.declared.entry.Left.{Left}
use Rattle.journal.specs.declared.entry.Journals.{Journals}
use Rattle.journal.specs.Lines.{speaker_after, is_duty, speaker_of}
use Rattle.journal.specs.Fits.{left_rank}

-- a controller's number, or the environment's
abbrev pub is_party : Tables → ℕ → Bool
is_party t c = nat_le c (length t.controllers)

-- a slot of the wiring
abbrev pub has_slot : Tables → ℕ → Bool
has_slot t s = nat_lt s (length t.slots)

-- a port of a slot
abbrev pub has_port : Tables → ℕ → ℕ → Bool
has_port t s p = nat_lt p (port_count t s)

-- a place of a port of a slot
abbrev pub fits_endpoint : Tables → Endpoint → Bool
fits_endpoint t e = has_slot t e.slot.0 && has_port t e.slot.0 e.port

-- where there is a source, it is one that the wiring has
abbrev pub fits_source : Tables → Option Endpoint → Bool
fits_source t None = true
fits_source t (Some e) = fits_endpoint t e

-- a signal of a port
abbrev pub has_signal : ℕ → PortNames → Bool
has_signal n p = nat_lt n (length (signals_of p))

-- a signal of a port of a slot
unfoldable pub knows_signal : Tables → ℕ → ℕ → ℕ → Bool
knows_signal t s p n = option_map_or (has_signal n) (port_at t s p) false

-- a kind at priority 0, else a signal of the target's port
abbrev pub fits_signal : Tables → ℕ → Endpoint → ℕ → Bool
fits_signal t prio target n = if prio == 0 then nat_lt n 19 else knows_signal t target.slot.0 target.port n

-- a message whose parties, endpoints and signal the wiring has
unfoldable pub fits_message : Tables → Msg → Bool
fits_message t m =
    is_party t m.from.0 && nat_lt m.to.0 (length t.controllers) && fits_source t m.source && fits_endpoint t m.target && fits_signal t m.prio.0 m.target m.signal

-- a state of a class; 65,535 at a class that has none
abbrev pub has_state : ℕ → ClassNames → Bool
has_state n c = if length c.states == 0 then n == 65535 else nat_lt n (length c.states)

-- a state of the slot's class
unfoldable pub fits_state : Tables → ℕ → ℕ → Bool
fits_state t s n = option_map_or (has_state n) (class_of t s) false

-- an actor and its state
abbrev pub fits_standing : Tables → Incarnation → ℕ → Bool
fits_standing t who state = has_slot t who.slot.0 && fits_state t who.slot.0 state

-- a port of who speaks
abbrev pub fits_speaker : Tables → Option SlotId → ℕ → Bool
fits_speaker t None p = false
fits_speaker t (Some s) p = has_slot t s.0 && has_port t s.0 p

-- a note of who speaks
abbrev pub fits_note : Tables → Option SlotId → Note → Bool
fits_note t speaker notes.Zero = true
fits_note t speaker notes.NoMessage = true
fits_note t speaker (notes.Unbound port place) = fits_speaker t speaker port
fits_note t speaker (notes.Recall count) = true
fits_note t speaker (notes.Up who state) = fits_standing t who state
fits_note t speaker (notes.Down who lost) = has_slot t who.slot.0

-- notes, each of who speaks by then
abbrev pub fits_notes : Tables → Bool → Option SlotId → List Note → Bool
fits_notes t duty speaker [] = true
fits_notes t duty speaker (n ∷ ns) = fits_note t speaker n && fits_notes t duty (speaker_after duty speaker n) ns

-- what a turn did
abbrev pub fits_did : Tables → Did → Bool
fits_did t outcomes.Duty = true
fits_did t (outcomes.Handled who state) = fits_standing t who state
fits_did t (outcomes.Deferred who state) = fits_standing t who state
fits_did t (outcomes.Unhandled who state) = fits_standing t who state
fits_did t (outcomes.Stale target) = has_slot t target.slot.0
fits_did t (outcomes.Empty target) = has_slot t target.slot.0

-- a post of this party, stamped when it was posted
abbrev pub fits_post : Tables → ℕ → ℕ → Msg → Bool
fits_post t party stamp m = fits_message t m && m.from.0 == party && m.stamp.0 == stamp

-- an entry in the journal of this controller
unfoldable pub fits_entry : Tables → ℕ → Entry → Bool
fits_entry t c (entries.Start who state ns) = fits_standing t who state && fits_notes t false (Some who.slot) ns
fits_entry t c (entries.Fetch stamp m) = m.to.0 == c && fits_message t m
fits_entry t c (entries.Turn stamp from sent did ns) = is_party t from.0 && fits_did t did && fits_notes t (is_duty did) (speaker_of did) ns
fits_entry t c (entries.Post stamp m) = fits_post t c stamp.0 m

-- an entry in the environment's journal: it only posts
unfoldable pub fits_environment : Tables → Entry → Bool
fits_environment t (entries.Start who state ns) = false
fits_environment t (entries.Fetch stamp m) = false
fits_environment t (entries.Turn stamp from sent did ns) = false
fits_environment t (entries.Post stamp m) = fits_post t (length t.controllers) stamp.0 m

-- a message left to its receiver, at a priority that has a list
unfoldable pub fits_left : Tables → Left → Bool
fits_left t l = fits_message t l.msg && l.msg.to.0 == l.to.0 && nat_le l.msg.prio.0 5

-- each entry of a journal
abbrev pub fits_journal : Tables → ℕ → List Entry → Bool
fits_journal t c es = list_all (fits_entry t c) es

-- the journals of the controllers from one on
abbrev pub fits_journals : Tables → ℕ → List (List Entry) → Bool
fits_journals t c [] = true
fits_journals t c (es ∷ ess) = fits_journal t c es && fits_journals t (suc c) ess

-- numbers that begin no lower than one, and don't fall
abbrev pub rises_from : ℕ → List ℕ → Bool
rises_from n [] = true
rises_from n (m ∷ ms) = nat_le n m && rises_from m ms

-- what was left is in order
abbrev pub in_order : Tables → List Left → Bool
in_order t ls = rises_from 0 (map (left_rank t) ls)

-- journals that fit
unfoldable pub fits : Tables → Journals → Bool
fits t j =
    length j.controllers == length t.controllers && fits_journals t 0 j.controllers && list_all (fits_environment t) j.environment && list_all (fits_left t) j.left
    && in_order t j.left
