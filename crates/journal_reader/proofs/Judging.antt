-- What a text can be the text of.
use Rattle.std.proofs.Common.{◌≡◌, ℕ, ◌<◌, ◌≤◌, List, length, take, sym, ap, ◌∙◌, arith, subst, inl, inr, true, false}
use Rattle.std.proofs.Math.ListN.{length-take}
use Rattle.room_wiring.specs.declared.tables.Tables.{Tables}
use Rattle.room_wiring.specs.Consistent.{IsConsistent}
use Rattle.room_wiring.specs.WellNamed.{IsWellNamed}
use Rattle.journal.specs.declared.entry.Journals.{Journals}
use Rattle.journal.specs.Fits.{Fits}
use Rattle.journal.specs.Text.{text_of}
use Rattle.tied_journals.specs.Tied.{Tied}
use Rattle.tied_journals.specs.Text.{tied_text_of}
use Rattle.journal_reader.specs.Answer.{IsTiedText, IsTextOf, is_second_form}
use Rattle.journal_reader.specs.journal_texts.Filled.{tied_journals_in}
use Rattle.journal_reader.proofs.journal_texts.FormsApart.{first_form, second_form, true_false, tied_back}
use Rattle.journal_reader.specs.journal_lines.Reading.{journals_in}
use Rattle.journal_reader.specs.journal_texts.InRange.{IsInRange}
use Rattle.journal_reader.proofs.journal_texts.FieldsBack.{Sized}
use Rattle.journal_reader.proofs.journal_texts.JournalsBack.{reads_back}

-- journals that have the text are what it is read as
pub read_is : (t : Tables) (bytes : List ℕ) (found j : Journals) → found ≡ journals_in t bytes → IsConsistent t → IsWellNamed t → Fits t j → IsInRange j → text_of t j ≡ bytes → found ≡ j
read_is t bytes found j is consistent named fits range text =
    let sized : Sized t = record { named = named; slots = consistent.slots_numbered; controllers = consistent.controllers_numbered } in
    is ∙ ap (journals_in t) (sym text) ∙ reads_back t j sized fits range

-- what was read has another text: no journals have this one
pub other_text : (t : Tables) (bytes : List ℕ) (found j : Journals) → found ≡ journals_in t bytes → IsConsistent t → IsWellNamed t → Fits t j → IsInRange j → text_of t j ≡ bytes → (text_of t found ≡ bytes → ⊥) → ⊥
other_text t bytes found j is consistent named fits range text differs = differs (ap (text_of t) (read_is t bytes found j is consistent named fits range text) ∙ text)

-- what was read doesn't fit: no journals that fit have this text
pub none_fit : (t : Tables) (bytes : List ℕ) (found j : Journals) → found ≡ journals_in t bytes → IsConsistent t → IsWellNamed t → Fits t j → IsInRange j → text_of t j ≡ bytes → (Fits t found → ⊥) → ⊥
none_fit t bytes found j is consistent named fits range text unfit =
    unfit (subst (Fits t) (sym (read_is t bytes found j is consistent named fits range text)) fits)

-- a text of which a front is as long as these bytes, and more follows, is another one
pub longer_text : (text bytes front : List ℕ) (n : ℕ) → front ≡ take n text → n < length text → length bytes ≤ length front → text ≡ bytes → ⊥
longer_text text bytes front n front_is inside long same_text =
    let front_length : length front ≡ length (take n text) = ap length front_is in
    let same_length : length text ≡ length bytes = ap length same_text in
    omega (arith, length-take n text)

-- ---- form 2

-- tied journals that have the text are what it is read as
pub tied_read_is : (t : Tables) (bytes : List ℕ) (found j : Journals) → found ≡ tied_journals_in t bytes → IsConsistent t → IsWellNamed t → Fits t j → IsInRange j → IsTiedText t j bytes → found ≡ j
tied_read_is t bytes found j is consistent named fits range text =
    let sized : Sized t = record { named = named; slots = consistent.slots_numbered; controllers = consistent.controllers_numbered } in
    is ∙ ap (tied_journals_in t) (sym text.text) ∙ tied_back t j sized fits range text.tied

pub other_tied_text : (t : Tables) (bytes : List ℕ) (found j : Journals) → found ≡ tied_journals_in t bytes → IsConsistent t → IsWellNamed t → Fits t j → IsInRange j → IsTiedText t j bytes → (tied_text_of t found ≡ bytes → ⊥) → ⊥
other_tied_text t bytes found j is consistent named fits range text differs =
    differs (ap (tied_text_of t) (tied_read_is t bytes found j is consistent named fits range text) ∙ text.text)

pub none_fit_tied : (t : Tables) (bytes : List ℕ) (found j : Journals) → found ≡ tied_journals_in t bytes → IsConsistent t → IsWellNamed t → Fits t j → IsInRange j → IsTiedText t j bytes → (Fits t found × Tied found → ⊥) → ⊥
none_fit_tied t bytes found j is consistent named fits range text unfit =
    unfit (subst (λ (x : Journals). Fits t x × Tied x) (sym (tied_read_is t bytes found j is consistent named fits range text)) (fits, text.tied))

-- ---- both forms

-- a text with the title of form 2 is none in form 1
pub in_second_form : (t : Tables) (j : Journals) (bytes : List ℕ) → is_second_form bytes ≡ true → IsTextOf t j bytes → IsTiedText t j bytes
in_second_form t j bytes second (inl text) = absurd (true_false (sym second ∙ ap is_second_form (sym text) ∙ first_form t j))
in_second_form t j bytes second (inr text) = text

-- another text is none in form 2
pub in_first_form : (t : Tables) (j : Journals) (bytes : List ℕ) → is_second_form bytes ≡ false → IsTextOf t j bytes → text_of t j ≡ bytes
in_first_form t j bytes first (inl text) = text
in_first_form t j bytes first (inr text) = absurd (true_false (sym (second_form t j) ∙ ap is_second_form text.text ∙ first))
