use Rattle.std.proofs.lemmas.Result.{err_from_is_err_and}
use Rattle.room_outside.proofs.line_text.Going.{going_begin, going_on, going_breaks}
use Rattle.room_show.proofs.ShowGoing.{going_controller, going_controllers_end}
use Rattle.room_show.proofs.text.write_controllers.Goals as goal

pub loop-c-init : goal.loop-c-init
loop-c-init g c = going_begin _ _

pub loop-c-preserved : goal.loop-c-preserved
loop-c-preserved g c =
    going_on _ _ _ _ _ _ (going_controller _ _ _ _ _ _ c.index-views-c.result c.loop-c-test.true c.index-views-c.is c.loop-c.invariant) c.in_ok-write_controller.ensures

pub returns : goal.returns
returns g c = going_controllers_end _ _ _ _ _ _ c.loop-c-test.false c.loop-c.invariant

pub returns-in_err-write_controller : goal.returns-in_err-write_controller
returns-in_err-write_controller g c =
    let p = err_from_is_err_and c.from_residual.result c.from_residual.ensures.1 in
    rw p.1 (going_breaks _ _ _ _ _ _ (going_controller _ _ _ _ _ _ c.index-views-c.result c.loop-c-test.true c.index-views-c.is c.loop-c.invariant) c.in_err-write_controller.ensures)
