use Rattle.std.proofs.Common.{◌≡◌, sym, ap, ◌∙◌, subst, Option, ℕ}
use Rattle.std.proofs.lemmas.Bool.{both_ways}
use Rattle.room_wiring.specs.declared.tables.Tables.{Tables}
use Rattle.journal.specs.Fits.{Fits}
use Rattle.tied_journals.specs.Tied.{Tied}
use Rattle.tied_journals.specs.Text.{tied_text_of}
use Rattle.journal_reader.specs.journal_texts.Filled.{filled, tied_journals_in}
use Rattle.journal_reader.specs.Answer.{Differs}
use Rattle.journal_reader.specs.journal_texts.InRange.{IsInRange}
use Rattle.journal_reader.proofs.InRangeLaw.{tied_read_in_range}
use Rattle.journal_reader.proofs.Judging.{tied_read_is, other_tied_text, none_fit_tied}
use Rattle.journal_reader.proofs.reader.read_second_form.Goals as goal

pub returns-in-Some-clause-only : goal.returns-in-Some-clause-only
returns-in-Some-clause-only c = λ named j fits range text.
    let t = c.args.wiring.now in
    let bytes = c.args.bytes.now in
    let found = c.in_ok-journals.journals in
    let found_is : found ≡ tied_journals_in t bytes = c.in_ok-journals.ensures ∙ ap filled c.in_ok-outlines.ensures ∙ ap (λ (x : Tables). tied_journals_in x bytes) c.requires in
    let differs : tied_text_of t found ≡ bytes → ⊥ = subst (λ (o : Option ℕ). Differs o (tied_text_of t found) bytes) c.in-Some.is c.in_ok-offset.ensures in
    absurd (other_tied_text t bytes found j found_is c.in_ok-fitting.ensures.consistent named fits range text differs)

pub returns-then-fitting-clause-only : goal.returns-then-fitting-clause-only
returns-then-fitting-clause-only c = λ named j fits range text.
    let t = c.args.wiring.now in
    let bytes = c.args.bytes.now in
    let found = c.in_ok-journals.journals in
    let found_is : found ≡ tied_journals_in t bytes = c.in_ok-journals.ensures ∙ ap filled c.in_ok-outlines.ensures ∙ ap (λ (x : Tables). tied_journals_in x bytes) c.requires in
    tied_read_is t bytes found j found_is c.in_ok-fitting.ensures.consistent named fits range text

pub returns-else-fitting-clause-only : goal.returns-else-fitting-clause-only
returns-else-fitting-clause-only c = λ named j fits range text.
    let t = c.args.wiring.now in
    let bytes = c.args.bytes.now in
    let found = c.in_ok-journals.journals in
    let found_is : found ≡ tied_journals_in t bytes = c.in_ok-journals.ensures ∙ ap filled c.in_ok-outlines.ensures ∙ ap (λ (x : Tables). tied_journals_in x bytes) c.requires in
    let unfit : Fits t found × Tied found → ⊥ = λ h. both_ways c.in_ok-fitting.fitting c.if-fitting.false (c.in_ok-fitting.ensures.judged.1 h) in
    absurd (none_fit_tied t bytes found j found_is c.in_ok-fitting.ensures.consistent named fits range text unfit)

pub returns-then-fitting-clause-in_range : goal.returns-then-fitting-clause-in_range
returns-then-fitting-clause-in_range c =
    let t = c.args.wiring.now in
    let bytes = c.args.bytes.now in
    let found_is = c.in_ok-journals.ensures ∙ ap filled c.in_ok-outlines.ensures ∙ ap (λ (x : Tables). tied_journals_in x bytes) c.requires in
    subst IsInRange (sym found_is) (tied_read_in_range t bytes c.in_ok-fitting.ensures.consistent)
