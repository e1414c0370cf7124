use Rattle.std.proofs.Common.{◌∙◌, ◌^◌, ap, arith, sum, sym}
use Rattle.wiring_places.proofs.place_spans.SlotSteps.{slot_counts_few, slot_counts_more, slot_counts_end}
use Rattle.wiring_places.proofs.place_spans.slot_counts.port_counts.Goals as goal

pub add_counts-requires-clause-places : goal.add_counts-requires-clause-places
add_counts-requires-clause-places c =
    let joins = c.requires.places.0 in
    let same = c.requires.places.1 in
    let all = ap sum (c.loop-s.invariant joins same) in
    slot_counts_few c.args.plan.now c.args.slots.now joins c.args.slots.now c.loop-s.s _ _ _ _ _ _ _ c.loop-s.counts.items (2 ^ 32) c.loop-s-test.true c.index-slots-s.is (c.taken_at-outside.ensures c.args.plan.now c.args.slots.now c.requires.containers) c.container_of_parent.ensures
    (c.taken_at-inside.ensures c.args.plan.now c.args.slots.now c.requires.containers) same c.is_imported.ensures c.class_ports.ensures (omega (arith, all, c.requires.places.2))

pub loop-s-preserved : goal.loop-s-preserved
loop-s-preserved c = λ joins same.
    slot_counts_more c.args.plan.now c.args.slots.now joins c.args.slots.now c.loop-s.s _ _ _ _ _ _ _ _ c.loop-s-test.true c.index-slots-s.is (c.taken_at-outside.ensures c.args.plan.now c.args.slots.now c.requires.containers) c.container_of_parent.ensures
    (c.taken_at-inside.ensures c.args.plan.now c.args.slots.now c.requires.containers) same c.is_imported.ensures c.class_ports.ensures c.in_ok-add_counts.ensures
    ∙ c.loop-s.invariant joins same

pub returns : goal.returns
returns c = λ joins same. sym (slot_counts_end c.args.plan.now c.args.slots.now joins c.args.slots.now c.loop-s.s _ c.loop-s-test.false) ∙ c.loop-s.invariant joins same
