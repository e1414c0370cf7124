use Rattle.std.proofs.Common.{◌<◌, ◌≤◌, arith}
use Rattle.std.proofs.lemmas.Result.{err_from_is_err_and}
use Rattle.room_outside.proofs.line_text.Going.{going_on, going_breaks}
use Rattle.room_wiring.specs.Places.{place_count}
use Rattle.binding_expand.specs.tree_text.Text.{place_text, port_ties}
use Rattle.binding_expand.proofs.tree_text.Walking.{going_from_none, going_number, going_numbers_end}
use Rattle.binding_expand.proofs.tree_text.text.write_port.Goals as goal

pub loop-place-init : goal.loop-place-init
loop-place-init g c = going_from_none (place_text c.args.wiring.now c.args.tie c.args.slot.0 c.args.port) _ _

pub loop-place-preserved : goal.loop-place-preserved
loop-place-preserved g c =
    let more : c.loop-place.place < (place_count c.args.wiring.now c.args.slot.0 c.args.port) = omega (arith, c.places-place-end.ensures) in
    going_on _ _ _ _ _ _ (going_number (place_text c.args.wiring.now c.args.tie c.args.slot.0 c.args.port) _ _ _ _ _ more c.loop-place.invariant) c.in_ok-write_place.ensures

pub returns : goal.returns
unfolding port_ties
returns g c =
    let none : (place_count c.args.wiring.now c.args.slot.0 c.args.port) ≤ c.loop-place.place = omega (arith, c.places-place-end.ensures) in
    going_numbers_end (place_text c.args.wiring.now c.args.tie c.args.slot.0 c.args.port) _ _ _ _ _ none c.loop-place.invariant

pub returns-in_err-write_place : goal.returns-in_err-write_place
unfolding port_ties
returns-in_err-write_place g c =
    let p = err_from_is_err_and c.from_residual.result c.from_residual.ensures.1 in
    let more : c.loop-place.place < (place_count c.args.wiring.now c.args.slot.0 c.args.port) = omega (arith, c.places-place-end.ensures) in
    rw p.1 (going_breaks _ _ _ _ _ _ (going_number (place_text c.args.wiring.now c.args.tie c.args.slot.0 c.args.port) _ _ _ _ _ more c.loop-place.invariant) c.in_err-write_place.ensures)
