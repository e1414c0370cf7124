-- Messages, what a turn did, and notes.
use Rattle.std.specs.Prelude.{ℕ, zero, suc, List, [], ◌∷◌, ◌==◌, if◌then◌else◌, Option, length, codes, ℤ}
use Rattle.name_tables.specs.name_numbers.Names.{same}
use Rattle.room_kinds.specs.declared.numbers.SlotId.{SlotId}
use Rattle.room_kinds.specs.declared.message.Msg.{Msg}
use Rattle.room_kinds.specs.declared.note.Note.{Note}
use Rattle.room_kinds.specs.declared.note.Note.TheVariants as notes
use Rattle.room_wiring.specs.declared.tables.Tables.{Tables}
use Rattle.journal.specs.declared.entry.Did.{Did}
use Rattle.journal.specs.declared.entry.Did.TheVariants as outcomes
use Rattle.journal_reader.specs.journal_lines.Numerals.{upto, past, number_in, byte_in, signed_in}
use Rattle.journal_reader.specs.journal_lines.Fields.{incarnation_in, after_incarnation, endpoint_in, after_endpoint, source_in, after_source, state_in, signal_in, speaking_port_in}

-- at most so many numbers, with blanks between them
unfoldable pub numbers_from : ℕ → List ℕ → List ℤ
numbers_from zero s = []
numbers_from (suc n) s = if length s == 0 then [] else signed_in (upto 32 s) ∷ numbers_from n (past 32 s)

-- the numbers of a message
unfoldable pub numbers_in : List ℕ → List ℤ
numbers_in s = numbers_from 64 s

-- `<prio> <source> <target> <signal> <numbers>`
unfoldable pub message_in : Tables → ℕ → ℕ → ℕ → List ℕ → Msg
message_in t from to stamp s =
    let prio = byte_in (upto 32 s) in
    let target = endpoint_in t (after_source (past 32 s)) in
    let tail = after_endpoint (after_source (past 32 s)) in
    record {
      from = record { 0 = from };
      to = record { 0 = to };
      prio = record { 0 = prio };
      stamp = record { 0 = stamp };
      source = source_in t (past 32 s);
      target = target;
      signal = signal_in t prio target (upto 32 tail);
      payload = numbers_in (past 32 tail);
    }

-- the state behind an incarnation
abbrev pub state_after : Tables → List ℕ → ℕ
state_after t s = state_in t (incarnation_in t s).slot.0 (after_incarnation s)

-- what a turn did
unfoldable pub did_in : Tables → List ℕ → Did
did_in t s =
    if same (upto 32 s) (codes "duty") then outcomes.Duty else
    (if same (upto 32 s) (codes "handled") then outcomes.Handled (incarnation_in t (past 32 s)) (state_after t (past 32 s)) else
    (if same (upto 32 s) (codes "deferred") then outcomes.Deferred (incarnation_in t (past 32 s)) (state_after t (past 32 s)) else
    (if same (upto 32 s) (codes "unhandled") then outcomes.Unhandled (incarnation_in t (past 32 s)) (state_after t (past 32 s)) else
    (if same (upto 32 s) (codes "stale") then outcomes.Stale (incarnation_in t (past 32 s)) else outcomes.Empty (incarnation_in t (past 32 s))))))

-- `<port>[<place>]`
abbrev pub unbound_in : Tables → Option SlotId → List ℕ → Note
unbound_in t speaker s = notes.Unbound (speaking_port_in t speaker (upto 91 s)) (signed_in (upto 93 (past 91 s)))

-- `<incarnation> <state>`
abbrev pub up_in : Tables → List ℕ → Note
up_in t s = notes.Up (incarnation_in t s) (state_after t s)

-- `<incarnation> <deferred messages lost>`
abbrev pub down_in : Tables → List ℕ → Note
down_in t s = notes.Down (incarnation_in t s) (number_in (after_incarnation s))

-- a note of who speaks
unfoldable pub note_in : Tables → Option SlotId → List ℕ → Note
note_in t speaker s =
    if same (upto 32 s) (codes "zero") then notes.Zero else
    (if same (upto 32 s) (codes "nomessage") then notes.NoMessage else
    (if same (upto 32 s) (codes "unbound") then unbound_in t speaker (past 32 s) else
    (if same (upto 32 s) (codes "recall") then notes.Recall (number_in (past 32 s)) else
    (if same (upto 32 s) (codes "up") then up_in t (past 32 s) else down_in t (past 32 s)))))
