-- Journals of which some lines have been read.
use Rattle.std.specs.Prelude.{ℕ, [], ◌∷◌, ◌++◌, Bool, true, false, if◌then◌else◌, Option, None, List, codes}
use Rattle.name_tables.specs.name_numbers.Names.{same}
use Rattle.room_kinds.specs.declared.numbers.ControllerId.{ControllerId}
use Rattle.room_kinds.specs.declared.numbers.SlotId.{SlotId}
use Rattle.room_kinds.specs.declared.note.Note.{Note}
use Rattle.journal.specs.declared.entry.Entry.{Entry}
use Rattle.journal.specs.declared.entry.Entry.TheVariants as entries
use Rattle.journal.specs.declared.entry.Left.{Left}
use Rattle.journal.specs.declared.entry.Journals.{Journals}
use Rattle.journal.specs.Lines.{speaker_after, is_duty}
use Rattle.journal_reader.specs.declared.journal_lines.draft.Draft.{Draft}
use Rattle.journal_reader.specs.declared.journal_lines.draft.Head.{Head}
use Rattle.journal_reader.specs.declared.journal_lines.draft.Head.TheVariants as heads

-- nothing was read
abbrev pub nothing_read : Draft
nothing_read = record {
  tied = false;
  controllers = [];
  titled = false;
  party = record { 0 = 0 };
  entries = [];
  head = heads.Nothing;
  notes = [];
  speaker = None;
  left = [];
  unposted = [];
  done = false;
}

-- an entry was added, and none stands open
abbrev pub ended : Draft → Entry → Draft
ended d e = record d { entries = d.entries ++ e ∷ []; head = heads.Nothing; speaker = None }

-- the notes went into this entry
abbrev pub with_entry : Draft → Entry → Draft
with_entry d e = ended (record d { notes = [] }) e

-- the entry that stands open, if there is one, gets the notes that came behind it
abbrev pub closed_at : Draft → Head → Draft
closed_at d heads.Nothing = d
closed_at d (heads.Start who state) = with_entry d (entries.Start who state d.notes)
closed_at d (heads.Turn stamp from sent did) = with_entry d (entries.Turn stamp from sent did d.notes)

unfoldable pub closed : Draft → Draft
closed d = closed_at d d.head

-- an entry opens, and who speaks in its notes
abbrev pub opened : Draft → Head → Option SlotId → Draft
opened d head speaker = record (closed d) { head = head; speaker = speaker }

-- an entry without notes is added
abbrev pub entered : Draft → Entry → Draft
entered d e = record (closed d) { entries = (closed d).entries ++ e ∷ [] }

-- whether the entry that stands open is a duty
abbrev pub duty_open : Head → Bool
duty_open heads.Nothing = false
duty_open (heads.Start who state) = false
duty_open (heads.Turn stamp from sent did) = is_duty did

-- a note of the entry that stands open
abbrev pub annotated : Draft → Note → Draft
annotated d n = record d { notes = d.notes ++ n ∷ []; speaker = speaker_after (duty_open d.head) d.speaker n }

-- the journal that was read, if there was one, is a controller's
abbrev pub shelved : Draft → Draft
shelved d = if d.titled then record d { controllers = d.controllers ++ d.entries ∷ []; entries = [] } else d

-- the journal of a party begins
abbrev pub titled_by : Draft → ControllerId → Draft
titled_by d party = record (shelved (closed d)) { titled = true; party = party }

-- the form in which the text is written: fetches are told by their posts in form 2
abbrev pub in_form : Draft → List ℕ → Draft
in_form d form = if same form (codes "2") then record d { tied = true } else d

-- a message that was left
abbrev pub with_left : Draft → Left → Draft
with_left d l = record d { left = d.left ++ l ∷ [] }

-- a line that was not posted
abbrev pub with_unposted : Draft → ℕ → Draft
with_unposted d n = record d { unposted = d.unposted ++ n ∷ [] }

-- the run came to its end
abbrev pub with_done : Draft → Draft
with_done d = record d { done = true }

-- the journals, the last of them the environment's
abbrev pub journals_of : Draft → Journals
journals_of d = record { controllers = d.controllers; environment = d.entries; left = d.left; unposted = d.unposted; done = d.done }

abbrev pub finished : Draft → Journals
finished d = journals_of (closed d)
