-- A text as journals, line by line. What isn't written as journals are is read as some journals.
use Rattle.std.specs.Prelude.{ℕ, Bool, List, ◌==◌, if◌then◌else◌, Some, length, codes, fold}
use Rattle.std.specs.List.{slice_split}
use Rattle.name_tables.specs.name_numbers.Names.{same}
use Rattle.room_wiring.specs.declared.tables.Tables.{Tables}
use Rattle.journal.specs.declared.entry.Entry.TheVariants as entries
use Rattle.journal.specs.declared.entry.Journals.{Journals}
use Rattle.journal.specs.Lines.{speaker_of}
use Rattle.journal_reader.specs.declared.journal_lines.draft.Draft.{Draft}
use Rattle.journal_reader.specs.declared.journal_lines.draft.Head.TheVariants as heads
use Rattle.journal_reader.specs.journal_lines.Numerals.{upto, past, begins_digit, number_in, byte_in, word_in}
use Rattle.journal_reader.specs.journal_lines.Fields.{party_in, incarnation_in}
use Rattle.journal_reader.specs.journal_lines.Messages.{message_in, did_in, note_in, state_after}
use Rattle.journal_reader.specs.journal_lines.Fetches.{fetches}
use Rattle.journal_reader.specs.journal_lines.Drafts.{nothing_read, opened, entered, annotated, titled_by, in_form, with_left, with_unposted, with_done, finished}

-- `<from>@<sent> <message>`
unfoldable pub fetched : Tables → Draft → ℕ → List ℕ → Draft
fetched t d stamp s =
    entered d (entries.Fetch (record { 0 = stamp })
    (message_in t (party_in t (upto 64 s)) d.party.0 (number_in (upto 32 (past 64 s))) (past 32 (past 64 s))))

-- a fetch in the form of the text
unfoldable pub any_fetched : Tables → Draft → ℕ → List ℕ → Draft
any_fetched t d stamp s = if d.tied then fetches t d stamp s else fetched t d stamp s

-- `<from>@<sent> <what>`
unfoldable pub turned : Tables → Draft → ℕ → List ℕ → Draft
turned t d stamp s =
    let did = did_in t (past 32 (past 64 s)) in
    opened d (heads.Turn (record { 0 = stamp }) (record { 0 = party_in t (upto 64 s) }) (record { 0 = number_in (upto 32 (past 64 s)) }) did) (speaker_of did)

-- `<to> <message>`
unfoldable pub posted : Tables → Draft → ℕ → List ℕ → Draft
posted t d stamp s = entered d (entries.Post (record { 0 = stamp }) (message_in t d.party.0 (byte_in (upto 32 s)) stamp (past 32 s)))

-- a line that begins with a stamp
unfoldable pub timed : Tables → Draft → ℕ → List ℕ → Draft
timed t d stamp s =
    if same (upto 32 s) (codes "fetch") then any_fetched t d stamp (past 32 s) else
    (if same (upto 32 s) (codes "turn") then turned t d stamp (past 32 s) else
    (if same (upto 32 s) (codes "post") then posted t d stamp (past 32 s) else d))

-- `<incarnation> <state>`
unfoldable pub started : Tables → Draft → List ℕ → Draft
started t d s = opened d (heads.Start (incarnation_in t s) (state_after t s)) (Some (incarnation_in t s).slot)

-- `<from>@<stamp> <message>`
unfoldable pub left_message : Tables → Draft → ℕ → Bool → List ℕ → Draft
left_message t d to pending s = with_left d (record {
  to = record { 0 = to };
  pending = pending;
  msg = message_in t (party_in t (upto 64 s)) to (number_in (upto 32 (past 64 s))) (past 32 (past 64 s));
})

-- `<to> <where> <from>@<stamp> <message>`
abbrev pub left_behind : Tables → Draft → List ℕ → Draft
left_behind t d s = left_message t d (byte_in (upto 32 s)) (same (upto 32 (past 32 s)) (codes "pending")) (past 32 (past 32 s))

-- a line that begins with a word
unfoldable pub worded : Tables → Draft → List ℕ → List ℕ → Draft
worded t d word s =
    if same word (codes "note") then annotated d (note_in t d.speaker s) else
    (if same word (codes "start") then started t d s else
    (if same word (codes "left") then left_behind t d s else
    (if same word (codes "unposted") then with_unposted d (word_in s) else
    (if same word (codes "controller") then titled_by d (record { 0 = byte_in (upto 32 s) }) else
    (if same word (codes "environment") then titled_by d (record { 0 = length t.controllers }) else
    (if same word (codes "done") then with_done d else
    (if same word (codes "room-journal") then in_form d s else d)))))))

-- a line
unfoldable pub taking : Tables → Draft → List ℕ → Draft
taking t d line = if begins_digit line then timed t d (number_in (upto 32 line)) (past 32 line) else worded t d (upto 32 line) (past 32 line)

-- the lines of a text
unfoldable pub reading : Tables → Draft → List ℕ → Draft
reading t d bytes = fold (taking t) d (slice_split (λ b. b == 10) bytes)

-- the journals that a text is read as
unfoldable pub journals_in : Tables → List ℕ → Journals
journals_in t bytes = finished (reading t nothing_read bytes)
