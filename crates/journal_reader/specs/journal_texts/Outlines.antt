-- Journals of whose fetches the sender, the receiver and the stamps alone are known, as form 2 tells them.
use Rattle.std.specs.Prelude.{List, map}
use Rattle.journal.specs.declared.entry.Entry.{Entry}
use Rattle.journal.specs.declared.entry.Entry.TheVariants as entries
use Rattle.journal.specs.declared.entry.Journals.{Journals}
use Rattle.journal_reader.specs.journal_lines.Fetches.{outline}

abbrev pub outlined : Entry → Entry
outlined (entries.Start who state notes) = entries.Start who state notes
outlined (entries.Fetch stamp m) = entries.Fetch stamp (outline m.from.0 m.to m.stamp.0)
outlined (entries.Turn stamp from sent did notes) = entries.Turn stamp from sent did notes
outlined (entries.Post stamp m) = entries.Post stamp m

abbrev pub outlined_entries : List Entry → List Entry
outlined_entries es = map outlined es

-- the environment fetches nothing
abbrev pub outlined_journals : Journals → Journals
outlined_journals j = record j { controllers = map outlined_entries j.controllers }
