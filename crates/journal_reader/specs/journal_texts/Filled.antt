-- Outlines of messages, filled by the posts that they name.
use Rattle.std.specs.Prelude.{List, ℕ, map, unwrap_or}
use Rattle.room_kinds.specs.declared.message.Msg.{Msg}
use Rattle.room_wiring.specs.declared.tables.Tables.{Tables}
use Rattle.journal.specs.declared.entry.Entry.{Entry}
use Rattle.journal.specs.declared.entry.Entry.TheVariants as entries
use Rattle.journal.specs.declared.entry.Journals.{Journals}
use Rattle.tied_journals.specs.PostTables.{only_post}
use Rattle.journal_reader.specs.journal_lines.Reading.{journals_in}

-- the message of the only post of the sender with the stamp; where there is none, this one
abbrev pub filled_message : Journals → Msg → Msg
filled_message j m = unwrap_or (only_post j m.from.0 m.stamp.0) m

abbrev pub filled_entry : Journals → Entry → Entry
filled_entry j (entries.Start who state notes) = entries.Start who state notes
filled_entry j (entries.Fetch stamp m) = entries.Fetch stamp (filled_message j m)
filled_entry j (entries.Turn stamp from sent did notes) = entries.Turn stamp from sent did notes
filled_entry j (entries.Post stamp m) = entries.Post stamp m

abbrev pub filled_entries : Journals → List Entry → List Entry
filled_entries j es = map (filled_entry j) es

-- each message that a controller fetched
abbrev pub filled : Journals → Journals
filled j = record j { controllers = map (filled_entries j) j.controllers }

-- the journals that a text in form 2 is read as
abbrev pub tied_journals_in : Tables → List ℕ → Journals
tied_journals_in t bytes = filled (journals_in t bytes)
