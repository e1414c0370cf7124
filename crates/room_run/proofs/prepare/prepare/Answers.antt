use Rattle.std.proofs.Common.{◌≡◌, map, Some, refl, sym, ap, ◌∙◌}
use Rattle.std.specs.String.{string_bytes}
use Rattle.room_show.specs.Text.{snapshot_text}
use Rattle.room_wiring.specs.declared.tables.Tables.{Tables}
use Rattle.room_run.specs.Words.{asked_view, files_view, record_view, judged_view}
use Rattle.room_run.specs.Causes.{of_check, of_tree, of_run, of_convert, of_verify, of_show, of_made}
use Rattle.room_run.specs.Outcome.{says_ok, says_tree, says_run, says_converted, says_lawful, says_shown}
use Rattle.room_run.specs.declared.asked.Asked.{Asked}
use Rattle.room_run.specs.declared.asked.Asked.TheVariants as code
use Rattle.room_run.proofs.CauseLemmas.{model_sound}
use Rattle.room_run.proofs.Fuel.{fuel_asked}
use Rattle.room_run.proofs.OutcomeLemmas.{text_is, timed_tied, run_of, sum_answers}
use Rattle.room_run.proofs.prepare.prepare.Goals as goal

pub returns-in-Ok-clause-ok : goal.returns-in-Ok-clause-ok
returns-in-Ok-clause-ok g c =
    let is : c.in-Some-Check.field-0 ≡ code.Check c.in-Some-Check.name = cc in
    says_ok c.in-Some-Check.name.now (sym c.in-Some-Check.ensures ∙ ap (λ (a : Asked). Some (asked_view a)) is) (model_sound (g.S.Shelf.shown c.args.shelf.now) c.in-Some-Check.name.now c.in-Ok._wiring c.in-Ok.ensures.ok) refl refl

pub returns-in-Err-clause-err : goal.returns-in-Err-clause-err
returns-in-Err-clause-err g c =
    let is : c.in-Some-Check.field-0 ≡ code.Check c.in-Some-Check.name = cc in
    of_check c.in-Some-Check.name.now (sym c.in-Some-Check.ensures ∙ ap (λ (a : Asked). Some (asked_view a)) is) c.in-Err.ensures.err

pub returns-in-Ok-read_wiring-clause-ok : goal.returns-in-Ok-read_wiring-clause-ok
returns-in-Ok-read_wiring-clause-ok g c =
    let is : c.in-Some-Tree.field-0 ≡ code.Tree c.in-Some-Tree.name = cc in
    says_tree c.in-Some-Tree.name.now c.in-Ok-read_wiring.wiring (sym c.in-Some-Tree.ensures ∙ ap (λ (a : Asked). Some (asked_view a)) is) c.in-Ok-read_wiring.ensures.ok refl refl

pub returns-in-Err-read_wiring-clause-err : goal.returns-in-Err-read_wiring-clause-err
returns-in-Err-read_wiring-clause-err g c =
    let is : c.in-Some-Tree.field-0 ≡ code.Tree c.in-Some-Tree.name = cc in
    of_tree c.in-Some-Tree.name.now (sym c.in-Some-Tree.ensures ∙ ap (λ (a : Asked). Some (asked_view a)) is) c.in-Err-read_wiring.ensures.err

pub run_files-requires-clause-least : goal.run_files-requires-clause-least
run_files-requires-clause-least g c _ _ =
    let is : c.in-Some-Run.field-0 ≡ code.Run c.in-Some-Run.files c.in-Some-Run.fuel = cc in
    (fuel_asked (map string_bytes c.args.words.now) (files_view c.in-Some-Run.files) c.in-Some-Run.fuel (sym c.in-Some-Run.ensures ∙ ap (λ (a : Asked). Some (asked_view a)) is)).0

pub run_files-requires-clause-most : goal.run_files-requires-clause-most
run_files-requires-clause-most g c _ _ =
    let is : c.in-Some-Run.field-0 ≡ code.Run c.in-Some-Run.files c.in-Some-Run.fuel = cc in
    (fuel_asked (map string_bytes c.args.words.now) (files_view c.in-Some-Run.files) c.in-Some-Run.fuel (sym c.in-Some-Run.ensures ∙ ap (λ (a : Asked). Some (asked_view a)) is)).1

pub returns-in-Ok-run_files-clause-ok : goal.returns-in-Ok-run_files-clause-ok
returns-in-Ok-run_files-clause-ok g c =
    let x = c.in-Ok-run_files.ensures.ok in
    let journals = c.in-Ok-run_files.finished.journals in
    let is : c.in-Some-Run.field-0 ≡ code.Run c.in-Some-Run.files c.in-Some-Run.fuel = cc in
    says_run (files_view c.in-Some-Run.files) c.in-Some-Run.fuel x.0 x.1 journals (sym c.in-Some-Run.ensures ∙ ap (λ (a : Asked). Some (asked_view a)) is)
    (run_of c.fitting_runs_journals.ensures (g.S.Shelf.shown c.args.shelf.now) (files_view c.in-Some-Run.files) c.in-Some-Run.fuel x.0 x.1 journals x.2 x.3.run)
    (text_is x.0 x.1 c.in-Some-Run.fuel c.in-Ok-run_files.finished x.3) refl

pub returns-in-Err-run_files-clause-err : goal.returns-in-Err-run_files-clause-err
returns-in-Err-run_files-clause-err g c =
    let is : c.in-Some-Run.field-0 ≡ code.Run c.in-Some-Run.files c.in-Some-Run.fuel = cc in
    of_run (files_view c.in-Some-Run.files) c.in-Some-Run.fuel (sym c.in-Some-Run.ensures ∙ ap (λ (a : Asked). Some (asked_view a)) is) c.in-Err-run_files.ensures.err

pub returns-in-Ok-run_files-clause-tied : goal.returns-in-Ok-run_files-clause-tied
returns-in-Ok-run_files-clause-tied g c =
    let x = c.in-Ok-run_files.ensures.ok in timed_tied x.0 x.1 c.in-Some-Run.fuel c.in-Ok-run_files.finished.journals x.3.run.timed

pub returns-in-Ok-convert-clause-ok : goal.returns-in-Ok-convert-clause-ok
returns-in-Ok-convert-clause-ok g c =
    let is : c.in-Some-Convert.field-0 ≡ code.Convert c.in-Some-Convert.files = cc in
    says_converted (record_view c.in-Some-Convert.files) c.in-Ok-convert.read.wiring c.in-Ok-convert.read.journals (sym c.in-Some-Convert.ensures ∙ ap (λ (a : Asked). Some (asked_view a)) is) c.in-Ok-convert.ensures.ok refl refl

pub returns-in-Err-convert-clause-err : goal.returns-in-Err-convert-clause-err
returns-in-Err-convert-clause-err g c =
    let is : c.in-Some-Convert.field-0 ≡ code.Convert c.in-Some-Convert.files = cc in
    of_convert (record_view c.in-Some-Convert.files) (sym c.in-Some-Convert.ensures ∙ ap (λ (a : Asked). Some (asked_view a)) is) c.in-Err-convert.ensures.err

pub returns-in-Ok-run_made-clause-ok : goal.returns-in-Ok-run_made-clause-ok
returns-in-Ok-run_made-clause-ok g c =
    let is : c.in-Some-Made.field-0 ≡ code.Made c.in-Some-Made.actors = cc in
    sum_answers c.fitting_runs_journals.ensures (g.S.Shelf.shown c.args.shelf.now) _ c.in-Some-Made.actors c.in-Ok-run_made.summary (sym c.in-Some-Made.ensures ∙ ap (λ (a : Asked). Some (asked_view a)) is) c.in-Ok-run_made.ensures.ok

pub returns-in-Err-run_made-clause-err : goal.returns-in-Err-run_made-clause-err
returns-in-Err-run_made-clause-err g c =
    let is : c.in-Some-Made.field-0 ≡ code.Made c.in-Some-Made.actors = cc in
    of_made c.in-Some-Made.actors (sym c.in-Some-Made.ensures ∙ ap (λ (a : Asked). Some (asked_view a)) is) c.in-Err-run_made.ensures.err

pub returns-in-Ok-verify_files-clause-ok : goal.returns-in-Ok-verify_files-clause-ok
returns-in-Ok-verify_files-clause-ok g c =
    let x = c.in-Ok-verify_files.ensures.ok in
    let is : c.in-Some-Verify.field-0 ≡ code.Verify c.in-Some-Verify.files c.in-Some-Verify.fuel = cc in
    says_lawful (judged_view c.in-Some-Verify.files) c.in-Some-Verify.fuel x.0 x.1 x.2 (sym c.in-Some-Verify.ensures ∙ ap (λ (a : Asked). Some (asked_view a)) is) x.3 refl refl

pub returns-in-Err-verify_files-clause-err : goal.returns-in-Err-verify_files-clause-err
returns-in-Err-verify_files-clause-err g c =
    let is : c.in-Some-Verify.field-0 ≡ code.Verify c.in-Some-Verify.files c.in-Some-Verify.fuel = cc in
    of_verify (judged_view c.in-Some-Verify.files) c.in-Some-Verify.fuel (sym c.in-Some-Verify.ensures ∙ ap (λ (a : Asked). Some (asked_view a)) is) c.in-Err-verify_files.ensures.err

pub returns-in-Ok-show_files-clause-ok : goal.returns-in-Ok-show_files-clause-ok
returns-in-Ok-show_files-clause-ok g c =
    let x = c.in-Ok-show_files.ensures.ok in
    let view = c.in-Ok-show_files.view in
    let is : c.in-Some-Show.field-0 ≡ code.Show c.in-Some-Show.files c.in-Some-Show.at = cc in
    says_shown (judged_view c.in-Some-Show.files) c.in-Some-Show.at x.0 x.1 x.2 view.snapshot (sym c.in-Some-Show.ensures ∙ ap (λ (a : Asked). Some (asked_view a)) is) x.3
    (ap (λ (w : Tables). snapshot_text w view.snapshot) x.4) refl

pub returns-in-Err-show_files-clause-err : goal.returns-in-Err-show_files-clause-err
returns-in-Err-show_files-clause-err g c =
    let is : c.in-Some-Show.field-0 ≡ code.Show c.in-Some-Show.files c.in-Some-Show.at = cc in
    of_show (judged_view c.in-Some-Show.files) c.in-Some-Show.at (sym c.in-Some-Show.ensures ∙ ap (λ (a : Asked). Some (asked_view a)) is) c.in-Err-show_files.ensures.err
