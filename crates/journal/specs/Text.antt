-- The text of the journals of a run.
use Rattle.std.specs.Prelude.{ℕ, suc, List, [], ◌∷◌, ◌++◌, Bool, if◌then◌else◌, codes}
use Rattle.std.specs.List.{flat_map, slice_index_or}
use Rattle.room_wiring.specs.declared.tables.Tables.{Tables}
use Rattle.journal.specs.declared.entry.Entry.{Entry}
use Rattle.journal.specs.declared.entry.Journals.{Journals}
use Rattle.journal.specs.declared.entry.Left.{Left}
use Rattle.room_outside.specs.line_text.Lines.{line}
use Rattle.journal.specs.Lines.{controller_line, entry_text, left_line, unposted_line}

-- a journal's entries
unfoldable pub journal_text : Tables → List Entry → List ℕ
journal_text t es = flat_map (entry_text t) es

-- the line above a controller's journal
abbrev pub title_of : Tables → ℕ → List ℕ
title_of t c = controller_line c (slice_index_or t.controllers c [])

-- a controller's journal under its line
unfoldable pub controller_text : Tables → ℕ → List Entry → List ℕ
controller_text t c es = title_of t c ++ journal_text t es

-- the journals of the controllers from number c on
abbrev pub controllers_text : Tables → ℕ → List (List Entry) → List ℕ
controllers_text t c [] = []
controllers_text t c (es ∷ rest) = controller_text t c es ++ controllers_text t (suc c) rest

-- the last line: whether the run came to its end
abbrev pub end_line : Bool → List ℕ
end_line done = line ((if done then codes "done" else codes "spent") ∷ [])

-- what was left, one message a line
unfoldable pub left_text : Tables → List Left → List ℕ
left_text t ls = flat_map (left_line t) ls

-- the lines of injections that were not posted
unfoldable pub unposted_text : List ℕ → List ℕ
unposted_text ns = flat_map unposted_line ns

-- the title, each controller's journal, the environment's, what was left, what was not posted, the end
unfoldable pub text_of : Tables → Journals → List ℕ
text_of t j =
    line (codes "room-journal 1" ∷ [])
    ++ (controllers_text t 0 j.controllers
    ++ (line (codes "environment" ∷ [])
    ++ (journal_text t j.environment
    ++ (left_text t j.left
    ++ (unposted_text j.unposted
    ++ end_line j.done)))))
