-- The text of tied journals, form 2: fetches that follow each other are one line, and each names the post
-- that has its message.
use Rattle.std.specs.Prelude.{ℕ, suc, List, [], ◌∷◌, ◌++◌, Bool, true, false, codes, decimal}
use Rattle.std.specs.List.{concat}
use Rattle.room_kinds.specs.declared.message.Msg.{Msg}
use Rattle.room_wiring.specs.declared.tables.Tables.{Tables}
use Rattle.room_outside.specs.line_text.Lines.{line}
use Rattle.journal.specs.declared.entry.Entry.{Entry}
use Rattle.journal.specs.declared.entry.Entry.TheVariants as entries
use Rattle.journal.specs.declared.entry.Journals.{Journals}
use Rattle.journal.specs.Names.{party_text}
use Rattle.journal.specs.Lines.{entry_text}
use Rattle.journal.specs.Text.{title_of, journal_text, left_text, unposted_text, end_line}

-- ` <from>@<sent>`
abbrev pub sent_parts : Tables → Msg → List (List ℕ)
sent_parts t m = codes " " ∷ party_text t m.from.0 ∷ codes "@" ∷ decimal m.stamp.0 ∷ []

-- `<stamp> fetch <from>@<sent>`: a line of fetches begins
abbrev pub fetch_parts : Tables → ℕ → Msg → List (List ℕ)
fetch_parts t stamp m = decimal stamp ∷ codes " fetch" ∷ sent_parts t m

-- whether an entry is a fetch
abbrev pub is_fetch : Entry → Bool
is_fetch (entries.Start who state notes) = false
is_fetch (entries.Fetch stamp m) = true
is_fetch (entries.Turn stamp from sent did notes) = false
is_fetch (entries.Post stamp m) = false

-- the end of the line of fetches that stands open, if one does
abbrev pub fetches_end : Bool → List ℕ
fetches_end false = []
fetches_end true = 10 ∷ []

-- a fetch: the first of a line, or a further one in the line that stands open
abbrev pub tied_fetch_text : Tables → Bool → ℕ → Msg → List ℕ
tied_fetch_text t false stamp m = concat (fetch_parts t stamp m)
tied_fetch_text t true stamp m = concat (sent_parts t m)

-- an entry and its notes, where a line of fetches may stand open; one that is no fetch ends it
abbrev pub tied_entry_text : Tables → Bool → Entry → List ℕ
tied_entry_text t begun (entries.Start who state notes) = fetches_end begun ++ entry_text t (entries.Start who state notes)
tied_entry_text t begun (entries.Fetch stamp m) = tied_fetch_text t begun stamp.0 m
tied_entry_text t begun (entries.Turn stamp from sent did notes) = fetches_end begun ++ entry_text t (entries.Turn stamp from sent did notes)
tied_entry_text t begun (entries.Post stamp m) = fetches_end begun ++ entry_text t (entries.Post stamp m)

-- a journal's entries, where a line of fetches may stand open
abbrev pub tied_entries_text : Tables → Bool → List Entry → List ℕ
tied_entries_text t begun [] = fetches_end begun
tied_entries_text t begun (e ∷ es) = tied_entry_text t begun e ++ tied_entries_text t (is_fetch e) es

-- a controller's journal
unfoldable pub tied_journal_text : Tables → List Entry → List ℕ
tied_journal_text t es = tied_entries_text t false es

-- a controller's journal under its line
unfoldable pub tied_controller_text : Tables → ℕ → List Entry → List ℕ
tied_controller_text t c es = title_of t c ++ tied_journal_text t es

-- the journals of the controllers from number c on
abbrev pub tied_controllers_text : Tables → ℕ → List (List Entry) → List ℕ
tied_controllers_text t c [] = []
tied_controllers_text t c (es ∷ rest) = tied_controller_text t c es ++ tied_controllers_text t (suc c) rest

-- what was left, what was not posted, and the end, as in form 1
unfoldable pub below_text : Tables → Journals → List ℕ
below_text t j = left_text t j.left ++ (unposted_text j.unposted ++ end_line j.done)

-- what stands below the controllers' journals, as in form 1
unfoldable pub rest_text : Tables → Journals → List ℕ
rest_text t j = line (codes "environment" ∷ []) ++ (journal_text t j.environment ++ below_text t j)

-- the title, each controller's journal, and the rest
unfoldable pub tied_text_of : Tables → Journals → List ℕ
tied_text_of t j = line (codes "room-journal 2" ∷ []) ++ (tied_controllers_text t 0 j.controllers ++ rest_text t j)
