use Rattle.room_run.specs.Words.{judged_view}
use Rattle.room_run.specs.Causes.{judged_model}
use Rattle.room_run.proofs.VerifyLemmas.{all_judged, both_judged, refused_injections, refused_record}
use Rattle.room_run.proofs.verify.read_judged.Goals as goal

pub returns-in-Err-clause-err : goal.returns-in-Err-clause-err
returns-in-Err-clause-err g c = judged_model c.in-Err.ensures.err

pub returns-in-Err-read_injections-clause-err : goal.returns-in-Err-read_injections-clause-err
returns-in-Err-read_injections-clause-err g c =
    refused_injections (g.S.Shelf.shown c.args.shelf.now) (g.S.Shelf.shown c.read_model.new.shelf) (g.S.Shelf.shown c.read_injections.new.shelf)
    (judged_view c.args.files) c.in-Ok.plant c.in-Err-read_injections.why c.in-Ok.ensures.ok c.read_model.ensures.keeps c.in-Err-read_injections.ensures.err

pub returns-in-Ok-read_any_record-clause-ok : goal.returns-in-Ok-read_any_record-clause-ok
returns-in-Ok-read_any_record-clause-ok g c =
    let before = g.S.Shelf.shown c.args.shelf.now in
    let middle = g.S.Shelf.shown c.read_model.new.shelf in
    let last = g.S.Shelf.shown c.read_injections.new.shelf in
    let texts =
    both_judged before middle (judged_view c.args.files).run c.in-Ok.plant c.in-Ok-read_injections.lines.items c.in-Ok.ensures.ok c.read_model.ensures.keeps
    c.in-Ok-read_injections.ensures.ok in
    all_judged before middle last (judged_view c.args.files) _ texts c.read_model.ensures.keeps c.read_injections.ensures.keeps
    c.in-Ok-read_any_record.ensures.ok c.in-Ok.ensures.fits c.in-Ok-read_injections.ensures.fit c.in-Ok-read_any_record.ensures.fits

pub returns-in-Err-read_any_record-clause-err : goal.returns-in-Err-read_any_record-clause-err
returns-in-Err-read_any_record-clause-err g c =
    let before = g.S.Shelf.shown c.args.shelf.now in
    let middle = g.S.Shelf.shown c.read_model.new.shelf in
    let last = g.S.Shelf.shown c.read_injections.new.shelf in
    let texts =
    both_judged before middle (judged_view c.args.files).run c.in-Ok.plant c.in-Ok-read_injections.lines.items c.in-Ok.ensures.ok c.read_model.ensures.keeps
    c.in-Ok-read_injections.ensures.ok in
    refused_record before middle last (g.S.Shelf.shown c.read_any_record.new.shelf) (judged_view c.args.files) c.in-Ok.plant c.in-Ok-read_injections.lines.items
    c.in-Err-read_any_record.why texts c.read_model.ensures.keeps c.read_injections.ensures.keeps c.in-Err-read_any_record.ensures.err
