-- The forms of text are told apart by their titles.
use Rattle.std.proofs.Common.{◌≡◌, true, false, refl, sym, ap, ◌∙◌}
use Rattle.room_wiring.specs.declared.tables.Tables.{Tables}
use Rattle.room_wiring.specs.Consistent.{IsConsistent}
use Rattle.room_wiring.specs.WellNamed.{IsWellNamed}
use Rattle.journal.specs.declared.entry.Journals.{Journals}
use Rattle.journal.specs.Fits.{Fits}
use Rattle.journal.specs.Text.{text_of}
use Rattle.tied_journals.specs.Tied.{Tied}
use Rattle.tied_journals.specs.Text.{tied_text_of}
use Rattle.journal_reader.specs.Answer.{is_second_form}
use Rattle.journal_reader.specs.journal_texts.InRange.{IsInRange}
use Rattle.journal_reader.specs.journal_texts.Filled.{filled, tied_journals_in}
use Rattle.journal_reader.proofs.journal_texts.FieldsBack.{Sized}
use Rattle.journal_reader.proofs.journal_texts.TiedBack.{tied_reads_back}
use Rattle.journal_reader.proofs.journal_texts.FilledBack.{filled_back}

pub first_form : (t : Tables) (j : Journals) → is_second_form (text_of t j) ≡ false
unfolding text_of
first_form t j = refl

pub second_form : (t : Tables) (j : Journals) → is_second_form (tied_text_of t j) ≡ true
unfolding tied_text_of
second_form t j = refl

pub true_false : true ≡ false → ⊥
true_false e = cc

-- a text in form 1 is none in form 2
pub forms_differ : (t : Tables) (i j : Journals) → text_of t i ≡ tied_text_of t j → ⊥
forms_differ t i j e = true_false (sym (second_form t j) ∙ ap is_second_form (sym e) ∙ first_form t i)

-- what the text of tied journals in form 2 is read as are these journals
pub tied_back : (t : Tables) (j : Journals) → Sized t → Fits t j → IsInRange j → Tied j → tied_journals_in t (tied_text_of t j) ≡ j
tied_back t j sized fits range tied = ap filled (tied_reads_back t j sized fits range tied) ∙ filled_back j tied

-- tied journals with one text in form 2 are the same
pub tied_texts_differ : (t : Tables) (i j : Journals) → IsConsistent t → IsWellNamed t → Fits t i → IsInRange i → Tied i → Fits t j → IsInRange j → Tied j → tied_text_of t i ≡ tied_text_of t j → i ≡ j
tied_texts_differ t i j consistent named fits_i range_i tied_i fits_j range_j tied_j same_text =
    let sized : Sized t = record { named = named; slots = consistent.slots_numbered; controllers = consistent.controllers_numbered } in
    sym (tied_back t i sized fits_i range_i tied_i) ∙ ap (tied_journals_in t) same_text ∙ tied_back t j sized fits_j range_j tied_j
