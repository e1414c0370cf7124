use Rattle.room_run.specs.Outcome.{answer_status, answer_text}
use Rattle.room_run.proofs.OutcomeLemmas.{printed_outcome, told_outcome}
use Rattle.room_run.proofs.top.room_top.Goals as goal

pub returns-in-Ok : goal.returns-in-Ok
returns-in-Ok g c =
    printed_outcome (g.S.Shelf.shown c.args.shelf.now) (g.S.Shelf.shown c.prepare.new.shelf) _ (g.K.Sink.written c.args.out.now) (g.K.Sink.written c.print.new.out) (g.K.Sink.written c.args.notes.now) (answer_text c.in-Ok.answer) (answer_status c.in-Ok.answer) c.print.result c.in-Ok.ensures.ok c.print.ensures

pub returns-in-Err : goal.returns-in-Err
returns-in-Err g c =
    told_outcome (g.S.Shelf.shown c.args.shelf.now) (g.S.Shelf.shown c.prepare.new.shelf) _ (g.K.Sink.written c.args.out.now) (g.K.Sink.written c.args.notes.now) (g.K.Sink.written c.tell.new.notes) c.in-Err.why c.tell.result c.in-Err.ensures.err c.tell.ensures
