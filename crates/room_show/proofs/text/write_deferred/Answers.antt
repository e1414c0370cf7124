use Rattle.std.proofs.lemmas.Result.{err_from_is_err_and}
use Rattle.room_show.specs.Lines.{deferred_line}
use Rattle.room_show.specs.Text.{deferred_text}
use Rattle.room_outside.proofs.line_text.Going.{going_begin, going_on, going_item, going_all, going_breaks}
use Rattle.room_show.proofs.text.write_deferred.Goals as goal

pub loop-msg-init : goal.loop-msg-init
loop-msg-init g c = going_begin _ _

pub loop-msg-preserved : goal.loop-msg-preserved
loop-msg-preserved g c =
    going_on _ _ _ _ _ _ (going_item (deferred_line c.args.wiring.now) _ _ _ _ _ c.msg-item.result c.loop-msg-test.true c.msg-item.is c.loop-msg.invariant) c.in_ok-write_deferred_line.ensures

pub returns : goal.returns
unfolding deferred_text
returns g c = going_all (deferred_line c.args.wiring.now) _ _ _ _ _ c.loop-msg-test.false c.loop-msg.invariant

pub returns-in_err-write_deferred_line : goal.returns-in_err-write_deferred_line
unfolding deferred_text
returns-in_err-write_deferred_line g c =
    let p = err_from_is_err_and c.from_residual.result c.from_residual.ensures.1 in
    rw p.1 (going_breaks _ _ _ _ _ _ (going_item (deferred_line c.args.wiring.now) _ _ _ _ _ c.msg-item.result c.loop-msg-test.true c.msg-item.is c.loop-msg.invariant) c.in_err-write_deferred_line.ensures)
