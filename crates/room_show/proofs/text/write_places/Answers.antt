use Rattle.std.proofs.lemmas.Result.{err_from_is_err_and}
use Rattle.room_show.specs.Lines.{place_line}
use Rattle.room_show.specs.Text.{places_text}
use Rattle.room_outside.proofs.line_text.Going.{going_begin, going_on, going_at, going_all, going_breaks}
use Rattle.room_show.proofs.text.write_places.Goals as goal

pub loop-place-init : goal.loop-place-init
loop-place-init g c = going_begin _ _

pub loop-place-preserved : goal.loop-place-preserved
loop-place-preserved g c =
    going_on _ _ _ _ _ _ (going_at (place_line c.args.wiring.now) _ _ _ _ _ _ c.loop-place-test.true c.loop-place.invariant) c.in_ok-write_place.ensures

pub returns : goal.returns
unfolding places_text
returns g c = going_all (place_line c.args.wiring.now) _ _ _ _ _ c.loop-place-test.false c.loop-place.invariant

pub returns-in_err-write_place : goal.returns-in_err-write_place
unfolding places_text
returns-in_err-write_place g c =
    let p = err_from_is_err_and c.from_residual.result c.from_residual.ensures.1 in
    rw p.1 (going_breaks _ _ _ _ _ _ (going_at (place_line c.args.wiring.now) _ _ _ _ _ _ c.loop-place-test.true c.loop-place.invariant) c.in_err-write_place.ensures)
