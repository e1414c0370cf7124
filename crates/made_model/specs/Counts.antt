-- What a summary counts of the journals of a run.
use Rattle.std.specs.Prelude.{ℕ, ◌+◌, Bool, true, false, List}
use Rattle.std.specs.List.{count_by, sum_by}
use Rattle.journal.specs.declared.entry.Did.{Did}
use Rattle.journal.specs.declared.entry.Did.TheVariants as did
use Rattle.journal.specs.declared.entry.Entry.{Entry}
use Rattle.journal.specs.declared.entry.Entry.TheVariants as entries
use Rattle.journal.specs.declared.entry.Journals.{Journals}
use Rattle.made_model.specs.declared.counts.Counted.{Counted}
use Rattle.made_model.specs.declared.counts.Counted.TheVariants as kinds
use Rattle.made_model.specs.declared.counts.Counts.{Counts}

-- whether a turn that did this is counted so
abbrev pub is_turn : Counted → Did → Bool
is_turn kinds.Handled (did.Handled who state) = true
is_turn kinds.Unhandled (did.Unhandled who state) = true
is_turn what other = false

-- whether an entry is counted so
abbrev pub is_counted : Counted → Entry → Bool
is_counted kinds.Post (entries.Post stamp message) = true
is_counted kinds.Fetch (entries.Fetch stamp message) = true
is_counted what (entries.Turn stamp sender sent what_it_did notes) = is_turn what what_it_did
is_counted what other = false

-- how many entries of some journals are counted so
abbrev pub in_all : Counted → List (List Entry) → ℕ
in_all what journals = sum_by (λ journal. count_by (is_counted what) journal) journals

-- how many entries of all controllers and the environment are counted so
abbrev pub number_of : Counted → Journals → ℕ
number_of what journals = in_all what journals.controllers + count_by (is_counted what) journals.environment

-- how many posts there are, how many fetches, and how many turns in which a message was handled, and in which no transition was enabled
abbrev pub counts_of : Journals → Counts
counts_of journals = record {
  posts = number_of kinds.Post journals;
  fetches = number_of kinds.Fetch journals;
  handled = number_of kinds.Handled journals;
  unhandled = number_of kinds.Unhandled journals;
}
