-- What a reading answers.
use Rattle.std.specs.Prelude.{◌≡◌, ◌⊎◌, ◌==◌, Bool, Option, Some, None, Result, Ok, Err, List, ℕ}
use Rattle.std.specs.List.{slice_index_or}
use Rattle.room_wiring.specs.declared.tables.Tables.{Tables}
use Rattle.journal.specs.declared.entry.Journals.{Journals}
use Rattle.journal.specs.Text.{text_of}
use Rattle.tied_journals.specs.Tied.{Tied}
use Rattle.tied_journals.specs.Text.{tied_text_of}
use Rattle.journal_reader.specs.declared.fault.ReadFaultOf.{ReadFaultOf}
use Rattle.journal_reader.specs.declared.fault.ReadFaultOf.TheVariants.{Memory}

-- these journals, unless memory ran out
abbrev pub Answers : Result Journals ReadFaultOf → Journals → Type 0
Answers (Ok found) j = found ≡ j
Answers (Err fault) j = fault ≡ Memory

-- a text is another one exactly where a first difference is told
abbrev pub Differs : Option ℕ → List ℕ → List ℕ → Type 0
Differs None text bytes = text ≡ bytes
Differs (Some offset) text bytes = text ≡ bytes → ⊥

-- the text of tied journals in form 2
pub record IsTiedText (t : Tables) (j : Journals) (bytes : List ℕ) : Type 0 where
  pub tied : Tied j
  pub text : tied_text_of t j ≡ bytes

-- the text of journals in form 1 or, where they are tied, in form 2
abbrev pub IsTextOf : Tables → Journals → List ℕ → Type 0
IsTextOf t j bytes = (text_of t j ≡ bytes) ⊎ IsTiedText t j bytes

-- whether the title of a text, if it has one, is that of form 2
abbrev pub is_second_form : List ℕ → Bool
is_second_form bytes = slice_index_or bytes 13 0 == 50
