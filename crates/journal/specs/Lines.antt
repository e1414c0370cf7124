-- The lines of a journal.
use Rattle.std.specs.Prelude.{ℕ, List, [], ◌∷◌, ◌++◌, Bool, true, false, if◌then◌else◌, Option, Some, None, codes, decimal}
use Rattle.std.specs.Fmt.{signed_decimal}
use Rattle.room_kinds.specs.declared.numbers.Incarnation.{Incarnation}
use Rattle.room_kinds.specs.declared.numbers.SlotId.{SlotId}
use Rattle.room_kinds.specs.declared.message.Msg.{Msg}
use Rattle.room_kinds.specs.declared.note.Note.{Note}
use Rattle.room_kinds.specs.declared.note.Note.TheVariants as notes
use Rattle.room_wiring.specs.declared.tables.Tables.{Tables}
use Rattle.room_outside.specs.line_text.Lines.{line, numbers_text}
use Rattle.journal.specs.declared.entry.Entry.{Entry}
use Rattle.journal.specs.declared.entry.Entry.TheVariants as entries
use Rattle.journal.specs.declared.entry.Did.{Did}
use Rattle.journal.specs.declared.entry.Did.TheVariants as outcomes
use Rattle.journal.specs.declared.entry.Left.{Left}
use Rattle.room_wiring.specs.Slots.{port_text}
use Rattle.journal.specs.Names.{party_text, state_text, signal_text, incarnation_parts, source_parts, endpoint_parts}

-- `<prio> `
abbrev pub priority_parts : ℕ → List (List ℕ)
priority_parts prio = decimal prio ∷ codes " " ∷ []

-- ` <signal> <numbers>`
abbrev pub signal_parts : Tables → Msg → List (List ℕ)
signal_parts t m = codes " " ∷ signal_text t m ∷ numbers_text m.payload ∷ []

-- `<prio> <source> <target> <signal> <numbers>`
abbrev pub message_parts : Tables → Msg → List (List ℕ)
message_parts t m =
    priority_parts m.prio.0
    ++ (source_parts t m.source
    ++ ((codes " " ∷ [])
    ++ (endpoint_parts t m.target ++ signal_parts t m)))

-- `<incarnation> <state>`
abbrev pub standing_parts : Tables → Incarnation → ℕ → List (List ℕ)
standing_parts t who state = incarnation_parts t who ++ (codes " " ∷ state_text t who.slot.0 state ∷ [])

-- what a turn did, after a blank
abbrev pub did_parts : Tables → Did → List (List ℕ)
did_parts t outcomes.Duty = codes " duty" ∷ []
did_parts t (outcomes.Handled who state) = codes " handled " ∷ standing_parts t who state
did_parts t (outcomes.Deferred who state) = codes " deferred " ∷ standing_parts t who state
did_parts t (outcomes.Unhandled who state) = codes " unhandled " ∷ standing_parts t who state
did_parts t (outcomes.Stale target) = codes " stale " ∷ incarnation_parts t target
did_parts t (outcomes.Empty target) = codes " empty " ∷ incarnation_parts t target

-- the slot at whose class's ports a note `unbound` stands
abbrev pub speaking_port_text : Tables → Option SlotId → ℕ → List ℕ
speaking_port_text t None p = []
speaking_port_text t (Some s) p = port_text t s.0 p

-- a note of the actor in the slot `speaker`
abbrev pub note_line : Tables → Option SlotId → Note → List ℕ
note_line t speaker notes.Zero = line (codes "note zero" ∷ [])
note_line t speaker notes.NoMessage = line (codes "note nomessage" ∷ [])
note_line t speaker (notes.Unbound port place) =
    line (codes "note unbound " ∷ speaking_port_text t speaker port ∷ codes "[" ∷ signed_decimal place ∷ codes "]" ∷ [])
note_line t speaker (notes.Recall count) = line (codes "note recall " ∷ decimal count ∷ [])
note_line t speaker (notes.Up who state) = line (codes "note up " ∷ standing_parts t who state)
note_line t speaker (notes.Down who lost) =
    line (codes "note down " ∷ (incarnation_parts t who ++ (codes " " ∷ decimal lost ∷ [])))

-- who speaks after a note: in a duty, an actor that came up speaks from then on
abbrev pub speaker_after : Bool → Option SlotId → Note → Option SlotId
speaker_after true speaker (notes.Up who state) = Some who.slot
speaker_after duty speaker _ = speaker

-- the lines of notes
abbrev pub note_lines : Tables → Bool → Option SlotId → List Note → List ℕ
note_lines t duty speaker [] = []
note_lines t duty speaker (n ∷ ns) = note_line t speaker n ++ note_lines t duty (speaker_after duty speaker n) ns

-- whether a turn is a duty
abbrev pub is_duty : Did → Bool
is_duty outcomes.Duty = true
is_duty (outcomes.Handled who state) = false
is_duty (outcomes.Deferred who state) = false
is_duty (outcomes.Unhandled who state) = false
is_duty (outcomes.Stale target) = false
is_duty (outcomes.Empty target) = false

-- who speaks as a turn begins: its actor; in a duty nobody
abbrev pub speaker_of : Did → Option SlotId
speaker_of outcomes.Duty = None
speaker_of (outcomes.Handled who state) = Some who.slot
speaker_of (outcomes.Deferred who state) = Some who.slot
speaker_of (outcomes.Unhandled who state) = Some who.slot
speaker_of (outcomes.Stale target) = Some target.slot
speaker_of (outcomes.Empty target) = Some target.slot

-- `start <incarnation> <state>`
abbrev pub start_line : Tables → Incarnation → ℕ → List ℕ
start_line t who state = line (codes "start " ∷ standing_parts t who state)

-- `<stamp> fetch <from>@<sent> <message>`
abbrev pub fetch_line : Tables → ℕ → Msg → List ℕ
fetch_line t stamp m =
    line (decimal stamp ∷ codes " fetch " ∷ party_text t m.from.0 ∷ codes "@" ∷ decimal m.stamp.0 ∷ codes " " ∷ message_parts t m)

-- `<stamp> turn <from>@<sent>`
abbrev pub turn_parts : Tables → ℕ → ℕ → ℕ → List (List ℕ)
turn_parts t stamp from sent = decimal stamp ∷ codes " turn " ∷ party_text t from ∷ codes "@" ∷ decimal sent ∷ []

-- `<stamp> turn <from>@<sent> <what>`
abbrev pub turn_line : Tables → ℕ → ℕ → ℕ → Did → List ℕ
turn_line t stamp from sent did = line (turn_parts t stamp from sent ++ did_parts t did)

-- `<stamp> post <to> <message>`
abbrev pub post_line : Tables → ℕ → Msg → List ℕ
post_line t stamp m = line (decimal stamp ∷ codes " post " ∷ decimal m.to.0 ∷ codes " " ∷ message_parts t m)

-- an entry and its notes
abbrev pub entry_text : Tables → Entry → List ℕ
entry_text t (entries.Start who state notes) = start_line t who state ++ note_lines t false (Some who.slot) notes
entry_text t (entries.Fetch stamp m) = fetch_line t stamp.0 m
entry_text t (entries.Turn stamp from sent did notes) =
    turn_line t stamp.0 from.0 sent.0 did ++ note_lines t (is_duty did) (speaker_of did) notes
entry_text t (entries.Post stamp m) = post_line t stamp.0 m

-- where a message was left
abbrev pub where_text : Bool → List ℕ
where_text pending = if pending then codes " pending " else codes " lane "

-- `left <to> <where> <from>@<stamp> <message>`
abbrev pub left_line : Tables → Left → List ℕ
left_line t l =
    line (codes "left " ∷ decimal l.to.0 ∷ where_text l.pending ∷ party_text t l.msg.from.0 ∷ codes "@"
    ∷ decimal l.msg.stamp.0 ∷ codes " " ∷ message_parts t l.msg)

-- `unposted <line>`
abbrev pub unposted_line : ℕ → List ℕ
unposted_line n = line (codes "unposted " ∷ decimal n ∷ [])

-- `controller <number> <name>`
abbrev pub controller_line : ℕ → List ℕ → List ℕ
controller_line c name = line (codes "controller " ∷ decimal c ∷ codes " " ∷ name ∷ [])
