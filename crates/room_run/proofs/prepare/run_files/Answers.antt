use Rattle.std.proofs.Common.{subst}
use Rattle.room_run.specs.Words.{files_view}
use Rattle.room_run.specs.Finished.{Finishes}
use Rattle.room_run.proofs.CauseLemmas.{both_read, refused_lines}
use Rattle.room_run.proofs.prepare.run_files.Goals as goal

pub returns-in-Ok-run-clause-ok : goal.returns-in-Ok-run-clause-ok
returns-in-Ok-run-clause-ok g c =
    let lines = c.in-Ok-read.lines.items in
    let read = both_read (g.S.Shelf.shown c.args.shelf.now) (g.S.Shelf.shown c.read_model.new.shelf) (files_view c.args.files) c.in-Ok.plant lines c.in-Ok.ensures.ok c.read_model.ensures.keeps c.in-Ok-read.ensures.ok in
    (c.in-Ok.plant, lines, read, subst (λ ls. Finishes c.in-Ok.plant ls c.args.fuel c.in-Ok-run.finished) c.as_slice.ensures.value c.in-Ok-run.ensures)

pub returns-in-Err-read-clause-err : goal.returns-in-Err-read-clause-err
returns-in-Err-read-clause-err g c =
    refused_lines (g.S.Shelf.shown c.args.shelf.now) (g.S.Shelf.shown c.read_model.new.shelf) (g.S.Shelf.shown c.read_injections-read.new.shelf) (files_view c.args.files) c.in-Ok.plant c.in-Err-read.why c.in-Ok.ensures.ok c.read_model.ensures.keeps c.in-Err-read.ensures.err
