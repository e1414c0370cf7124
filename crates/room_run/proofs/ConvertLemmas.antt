-- From texts of journals to what is written of them, and why they are refused.
use Rattle.std.proofs.Common.{◌≡◌, ℕ, ◌≤◌, List, length, IfSome, Result, Ok, Err, refl}
use Rattle.std.specs.Prelude.{IfErr}
use Rattle.room_outside.specs.Shown.{Shown, Keeps}
use Rattle.room_outside.proofs.ShelfLemmas.{IfSome-before, Rose-before}
use Rattle.room_wiring.specs.declared.tables.Tables.{Tables}
use Rattle.journal.specs.Fits.{Fits}
use Rattle.journal.specs.declared.entry.Journals.{Journals}
use Rattle.tied_journals.specs.Tied.{Tied}
use Rattle.journal_reader.specs.Answer.{IsTextOf}
use Rattle.journal_reader.specs.journal_texts.InRange.{IsInRange}
use Rattle.journal_reader.specs.declared.fault.ReadFaultOf.{ReadFaultOf}
use Rattle.journal_reader.specs.declared.fault.ReadFaultOf.TheVariants as journal_faults
use Rattle.room_run.specs.Words.{Record}
use Rattle.room_run.specs.Models.{IsSound}
use Rattle.room_run.specs.Conversions.{most_journal_bytes, HasNoJournals, HasTiedJournals, HasUntiedJournals}
use Rattle.room_run.specs.Causes.{TextIs, ReadingCauses, malformed, no_memory_for_journals, RecordedCauses, unread_journals, untied, no_memory_to_tie, refusal_of_journals, UnreadRecord, record_unread, record_long, record_no_memory, JournalsCauses, no_record, journals_malformed, journals_no_memory, TiedCauses, journals_refused, journals_untied, ConvertCauses, of_journals}
use Rattle.room_run.specs.Outcome.{AreRecorded}
use Rattle.room_run.specs.declared.refusal.Refusal.{Refusal}
use Rattle.room_run.proofs.CauseLemmas.{found_fact}

-- a text that can't be read has no journals
pub none_read : (t : Tables) (text : List ℕ) (fault : ReadFaultOf) → length text ≤ most_journal_bytes
    → ((j : Journals) → Fits t j → IsInRange j → IsTextOf t j text → fault ≡ journal_faults.Memory) → ReadingCauses t text (refusal_of_journals fault)
none_read t text (journal_faults.Malformed offset) short h =
    malformed offset (record { short = short; none = λ j fit range is. let no : journal_faults.Malformed offset ≡ journal_faults.Memory = h j fit range is in absurd cc })
none_read t text journal_faults.Memory short h = no_memory_for_journals

pub are_tied : (t : Tables) (text : List ℕ) (j : Journals) → length text ≤ most_journal_bytes → Fits t j → IsInRange j → IsTextOf t j text → Tied j → HasTiedJournals t text j
are_tied t text j short fit range is tied = record { has = record { short = short; fit = fit; in_range = range; is = is }; tied = tied }

-- what was found of the journals is so of the text that is shown
pub journals_found : (shelf : Shown) (name bytes : List ℕ) (t : Tables) (j : Journals) → IfSome (shelf.text name) (λ text. bytes ≡ text) → HasTiedJournals t bytes j
    → TextIs shelf name (λ text. HasTiedJournals t text j)
journals_found shelf name bytes t j is h = found_fact (λ text. HasTiedJournals t text j) (shelf.text name) bytes is h

-- the text was read, and no journals can be read from it
pub reading_cause : (before after : Shown) (name bytes : List ℕ) (t : Tables) (why : Refusal) → IfSome (before.text name) (λ text. bytes ≡ text)
    → ReadingCauses t bytes why → JournalsCauses before after name t why
reading_cause before after name bytes t _ is (malformed offset h) =
    journals_malformed offset (found_fact (λ text. HasNoJournals t text) (before.text name) bytes is h) refl
reading_cause before after name bytes t _ is no_memory_for_journals = journals_no_memory refl

-- or they can't be written again
journals_cause : (before after : Shown) (name bytes : List ℕ) (t : Tables) (why : Refusal) → IfSome (before.text name) (λ text. bytes ≡ text)
    → RecordedCauses t bytes why → TiedCauses before after name t why
journals_cause before after name bytes t why is (unread_journals h) = journals_refused (reading_cause before after name bytes t why is h)
journals_cause before after name bytes t _ is (untied controller stamp h) =
    journals_untied controller stamp (found_fact (λ text. HasUntiedJournals t text controller stamp) (before.text name) bytes is h) refl
journals_cause before after name bytes t _ is no_memory_to_tie = journals_refused (journals_no_memory refl)

-- so is what was read refused
pub any_cause : (before after : Shown) (name bytes : List ℕ) (t : Tables) (r : Result Journals Refusal) → IfSome (before.text name) (λ text. bytes ≡ text)
    → IfErr r (λ why. ReadingCauses t bytes why) → IfErr r (λ why. JournalsCauses before after name t why)
any_cause before after name bytes t (Ok j) is h = tt
any_cause before after name bytes t (Err why) is h = reading_cause before after name bytes t why is h

pub record_cause : (before after : Shown) (name bytes : List ℕ) (t : Tables) (r : Result Journals Refusal) → IfSome (before.text name) (λ text. bytes ≡ text)
    → IfErr r (λ why. RecordedCauses t bytes why) → IfErr r (λ why. TiedCauses before after name t why)
record_cause before after name bytes t (Ok j) is h = tt
record_cause before after name bytes t (Err why) is h = journals_cause before after name bytes t why is h

unread_before : {a b c : Shown} {name : List ℕ} {why : Refusal} → Keeps a b → UnreadRecord b c name why → UnreadRecord a c name why
unread_before {a} {b} {c} {name} k (record_unread r is) = record_unread (Rose-before name k r) is
unread_before {a} {b} {c} {name} k (record_long h is) = record_long (IfSome-before name _ k h) is
unread_before k (record_no_memory is) = record_no_memory is

pub journals_causes_before : {a b c : Shown} {name : List ℕ} {t : Tables} {why : Refusal} → Keeps a b → JournalsCauses b c name t why → JournalsCauses a c name t why
journals_causes_before k (no_record h) = no_record (unread_before k h)
journals_causes_before {a} {b} {c} {name} k (journals_malformed offset h is) = journals_malformed offset (IfSome-before name _ k h) is
journals_causes_before k (journals_no_memory is) = journals_no_memory is

tied_causes_before : {a b c : Shown} {name : List ℕ} {t : Tables} {why : Refusal} → Keeps a b → TiedCauses b c name t why → TiedCauses a c name t why
tied_causes_before k (journals_refused h) = journals_refused (journals_causes_before k h)
tied_causes_before {a} {b} {c} {name} k (journals_untied controller stamp h is) = journals_untied controller stamp (IfSome-before name _ k h) is

-- the model was read, and the journals are refused
pub refused_journals : (before middle after : Shown) (files : Record) (t : Tables) (why : Refusal) → TextIs before files.model (λ text. IsSound text t) → Keeps before middle
    → TiedCauses middle after files.journals t why → ConvertCauses before after files why
refused_journals before middle after files t why accepted k h = of_journals t accepted (tied_causes_before k h)

-- both were read
pub both_recorded : (before middle : Shown) (files : Record) (t : Tables) (j : Journals) → TextIs before files.model (λ text. IsSound text t) → Keeps before middle
    → TextIs middle files.journals (λ text. HasTiedJournals t text j) → AreRecorded before files t j
both_recorded before middle files t j accepted k read = record { model_accepted = accepted; journals_accepted = IfSome-before files.journals _ k read }
