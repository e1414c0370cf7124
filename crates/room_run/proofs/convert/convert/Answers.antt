use Rattle.room_run.specs.Words.{record_view}
use Rattle.room_run.specs.Causes.{of_its_model}
use Rattle.room_run.proofs.ConvertLemmas.{both_recorded, refused_journals}
use Rattle.room_run.proofs.convert.convert.Goals as goal

pub returns-in-Err-clause-err : goal.returns-in-Err-clause-err
returns-in-Err-clause-err g c = of_its_model c.in-Err.ensures.err

pub returns-in-Ok-read_record-clause-ok : goal.returns-in-Ok-read_record-clause-ok
returns-in-Ok-read_record-clause-ok g c =
    both_recorded (g.S.Shelf.shown c.args.shelf.now) (g.S.Shelf.shown c.read_wiring.new.shelf) (record_view c.args.files) c.in-Ok.wiring c.in-Ok-read_record.journals
    c.in-Ok.ensures.ok c.read_wiring.ensures.keeps c.in-Ok-read_record.ensures.ok

pub returns-in-Err-read_record-clause-err : goal.returns-in-Err-read_record-clause-err
returns-in-Err-read_record-clause-err g c =
    refused_journals (g.S.Shelf.shown c.args.shelf.now) (g.S.Shelf.shown c.read_wiring.new.shelf) (g.S.Shelf.shown c.read_record.new.shelf) (record_view c.args.files) c.in-Ok.wiring c.in-Err-read_record.why
    c.in-Ok.ensures.ok c.read_wiring.ensures.keeps c.in-Err-read_record.ensures.err
