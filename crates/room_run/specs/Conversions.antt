-- Journals that are read from a text, in form 1 or in form 2, and may be written again in form 2.
-- Of the journals that could have a text only those count whose numbers are in the ranges of their types.
use Rattle.std.specs.Prelude.{◌≡◌, ℕ, ◌≤◌, List, length}
use Rattle.room_kinds.specs.declared.numbers.ControllerId.{ControllerId}
use Rattle.room_kinds.specs.declared.numbers.Stamp.{Stamp}
use Rattle.room_wiring.specs.declared.tables.Tables.{Tables}
use Rattle.journal.specs.Fits.{Fits}
use Rattle.journal.specs.declared.entry.Journals.{Journals}
use Rattle.tied_journals.specs.Tied.{Tied}
use Rattle.tied_journals.specs.Text.{tied_text_of}
use Rattle.tied_journals.specs.Untied.{IsFirstUntied}
use Rattle.journal_reader.specs.Answer.{IsTextOf}
use Rattle.journal_reader.specs.journal_texts.InRange.{IsInRange}
use Rattle.room_run.specs.Models.{IsSound}

-- the most bytes of a text of journals: 256 MiB
abbrev pub most_journal_bytes : ℕ
most_journal_bytes = 268435456

-- the text is that of these journals, which fit the wiring
pub record HasJournals (t : Tables) (text : List ℕ) (j : Journals) : Type 0 where
  pub short : length text ≤ most_journal_bytes
  pub fit : Fits t j
  pub in_range : IsInRange j
  pub is : IsTextOf t j text

-- and they are tied, so that they have a text in form 2
pub record HasTiedJournals (t : Tables) (text : List ℕ) (j : Journals) : Type 0 where
  pub has : HasJournals t text j
  pub tied : Tied j

-- no journals that fit the wiring have this text
pub record HasNoJournals (t : Tables) (text : List ℕ) : Type 0 where
  pub short : length text ≤ most_journal_bytes
  pub none : (j : Journals) → Fits t j → IsInRange j → IsTextOf t j text → ⊥

-- the text is that of journals whose first fetch that is tied to no post is this controller's, with this stamp
pub record HasUntiedJournals (t : Tables) (text : List ℕ) (controller : ControllerId) (stamp : Stamp) : Type 0 where
  pub journals : Journals
  pub has : HasJournals t text journals
  pub first : IsFirstUntied journals controller stamp

-- Journals that are read and written again in form 2 are told by what is written, and no others are: who
-- reads it gets them again. So it is over every wiring of a model without a fault.
abbrev pub ConversionsKeepJournals : Type 0
ConversionsKeepJournals =
    (model : List ℕ) (t : Tables) (text : List ℕ) (j : Journals) → IsSound model t → HasTiedJournals t text j
    → IsTextOf t j (tied_text_of t j) × ((other : Journals) → Fits t other → IsInRange other → IsTextOf t other (tied_text_of t j) → other ≡ j)
