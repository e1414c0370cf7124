use Rattle.std.proofs.Common.{◌<◌, ◌≤◌, arith, length}
use Rattle.std.proofs.lemmas.Result.{err_from_is_err_and}
use Rattle.room_outside.proofs.line_text.Going.{going_on, going_breaks}
use Rattle.binding_expand.specs.tree_text.Text.{slot_ties, ties_text}
use Rattle.binding_expand.proofs.tree_text.Walking.{going_from_none, going_number, going_numbers_end}
use Rattle.binding_expand.proofs.tree_text.text.write_ties.Goals as goal

pub loop-s-init : goal.loop-s-init
loop-s-init g c = going_from_none (slot_ties c.args.wiring.now c.args.tie) _ _

pub loop-s-preserved : goal.loop-s-preserved
loop-s-preserved g c =
    let more : c.loop-s.s < (length c.args.wiring.now.slots) = omega (arith, c.slot_count-s-end.ensures.count) in
    going_on _ _ _ _ _ _ (going_number (slot_ties c.args.wiring.now c.args.tie) _ _ _ _ _ more c.loop-s.invariant) c.in_ok-write_slot_ties.ensures

pub returns : goal.returns
unfolding ties_text
returns g c =
    let none : (length c.args.wiring.now.slots) ≤ c.loop-s.s = omega (arith, c.slot_count-s-end.ensures.count) in
    going_numbers_end (slot_ties c.args.wiring.now c.args.tie) _ _ _ _ _ none c.loop-s.invariant

pub returns-in_err-write_slot_ties : goal.returns-in_err-write_slot_ties
unfolding ties_text
returns-in_err-write_slot_ties g c =
    let p = err_from_is_err_and c.from_residual.result c.from_residual.ensures.1 in
    let more : c.loop-s.s < (length c.args.wiring.now.slots) = omega (arith, c.slot_count-s-end.ensures.count) in
    rw p.1 (going_breaks _ _ _ _ _ _ (going_number (slot_ties c.args.wiring.now c.args.tie) _ _ _ _ _ more c.loop-s.invariant) c.in_err-write_slot_ties.ensures)
