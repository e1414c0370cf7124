-- Lines of fetches in form 2. Of a message they tell its sender and its stamp; the rest is still to be found.
use Rattle.std.specs.Prelude.{ℕ, zero, suc, ◌+◌, ◌==◌, max, min, if◌then◌else◌, List, [], None, length}
use Rattle.room_kinds.specs.declared.numbers.ControllerId.{ControllerId}
use Rattle.room_kinds.specs.declared.message.Msg.{Msg}
use Rattle.room_wiring.specs.declared.tables.Tables.{Tables}
use Rattle.journal.specs.declared.entry.Entry.TheVariants as entries
use Rattle.journal_reader.specs.declared.journal_lines.draft.Draft.{Draft}
use Rattle.journal_reader.specs.journal_lines.Numerals.{upto, past, number_in}
use Rattle.journal_reader.specs.journal_lines.Fields.{party_in}
use Rattle.journal_reader.specs.journal_lines.Drafts.{entered}

-- a message of which its parties and its stamp alone are known
abbrev pub outline : ℕ → ControllerId → ℕ → Msg
outline from to sent = record {
  from = record { 0 = from };
  to = to;
  prio = record { 0 = 0 };
  stamp = record { 0 = sent };
  source = None;
  target = record { slot = record { 0 = 0 }; generation = record { 0 = 0 }; port = 0; place = 0 };
  signal = 0;
  payload = [];
}

-- `<from>@<sent>`
unfoldable pub outline_in : Tables → ControllerId → List ℕ → Msg
outline_in t to w = outline (party_in t (upto 64 w)) to (number_in (past 64 w))

-- the stamp of a fetch directly after one at `before`; the greatest number of 64 bits for every greater one
abbrev pub fetched_after : ℕ → ℕ → ℕ
fetched_after before sent = min (max before sent + 1) 18446744073709551615

-- ` <from>@<sent>` for each further fetch, at most so many
abbrev pub further : ℕ → Tables → Draft → ℕ → List ℕ → Draft
further zero t d before s = d
further (suc n) t d before s =
    if length s == 0 then d else
    further n t (entered d (entries.Fetch (record { 0 = fetched_after before (outline_in t d.party (upto 32 s)).stamp.0 }) (outline_in t d.party (upto 32 s))))
    (fetched_after before (outline_in t d.party (upto 32 s)).stamp.0) (past 32 s)

-- `<from>@<sent>`, and ` <from>@<sent>` for each further fetch
unfoldable pub fetches : Tables → Draft → ℕ → List ℕ → Draft
fetches t d stamp s =
    further (length (past 32 s)) t (entered d (entries.Fetch (record { 0 = stamp }) (outline_in t d.party (upto 32 s)))) stamp (past 32 s)
