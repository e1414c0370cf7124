use Rattle.std.proofs.Common.{◌∙◌, length, ap, arith}
use Rattle.std.proofs.lemmas.List.{nil_from_length, length_push}
use Rattle.wiring_slots.proofs.slot_tree.PlacedWaiting.{loop_starts, loop_on, loop_smaller, loop_over, loop_few, loop_done}
use Rattle.wiring_slots.proofs.slot_tree.slots.place.Goals as goal

pub loop-waiting-init : goal.loop-waiting-init
loop-waiting-init c = loop_starts c.args.plan.now c.args.names.now c.args.mappings.now c.new-placed.result c.args.tops.items c.new-placed.ensures.slots c.new-placed.ensures.paths c.requires.few c.requires.ready

pub returns-in_default-inside : goal.returns-in_default-inside
returns-in_default-inside c =
    loop_over c.args.plan.now c.args.names.now c.args.mappings.now _ c.loop-waiting.placed c.loop-waiting.stack.items c.pop.new.self.items c.in-Some.waiting c.loop-waiting.invariant c.in-Some.ensures.items
    c.len-number.result _ c.len-number.ensures (omega arith) c.in_ok-inside.inside c.in_ok-inside.ensures c.in_default-inside.is

pub loop-waiting-preserved : goal.loop-waiting-preserved
loop-waiting-preserved c =
    loop_on c.args.plan.now c.args.names.now c.args.mappings.now _ c.loop-waiting.placed c.loop-waiting.stack.items c.pop.new.self.items c.in-Some.waiting c.loop-waiting.invariant c.in-Some.ensures.items
    c.len-number.result _ c.len-number.ensures (omega arith) c.in_ok-inside.inside c.in_ok-inside.ensures
    c.in-Some-inside.children c.in-Some-inside.is c.add.new.self c.push_all.new.stack.items c.as_slice.result.now (c.as_slice.ensures.value ∙ c.in_ok-write_end.ensures)
    (record { slots = c.in_ok-add.ensures.slots; paths = c.in_ok-add.ensures.paths }) c.in_ok-push_all.ensures

pub loop-waiting-smaller : goal.loop-waiting-smaller
loop-waiting-smaller c =
    loop_smaller c.args.plan.now c.args.names.now c.args.mappings.now _ c.loop-waiting.placed c.loop-waiting.stack.items c.pop.new.self.items c.in-Some.waiting c.loop-waiting.invariant c.in-Some.ensures.items
    c.len-number.result _ c.len-number.ensures (omega arith) c.in_ok-inside.inside c.in_ok-inside.ensures c.add.new.self c.in_ok-add.ensures.slots

pub returns : goal.returns
returns c =
    let done = loop_done c.args.plan.now c.args.names.now c.args.mappings.now _ c.loop-waiting.placed c.loop-waiting.stack.items (nil_from_length c.loop-waiting.stack.items (omega (arith, (rw c.in_default.is at c.pop.ensures.cases).0))) c.loop-waiting.invariant in
    (c.in_ok-finish.ensures ∙ done.0, done.1)

pub finish-requires : goal.finish-requires
finish-requires c = c.loop-waiting.invariant.paths

pub overflow_sub-room-in-Some-2 : goal.overflow_sub-room-in-Some-2
overflow_sub-room-in-Some-2 c =
    let few = loop_few c.args.plan.now c.args.names.now c.args.mappings.now _ c.loop-waiting.placed c.loop-waiting.stack.items c.loop-waiting.invariant in
    let size = ap length c.in-Some.ensures.items ∙ length_push c.pop.new.self.items c.in-Some.waiting in
    omega (arith, few, size, c.len-number.ensures, c.len.ensures, c.pop.new.self.ok.0)

pub overflow_cast-number : goal.overflow_cast-number
overflow_cast-number c =
    let few = loop_few c.args.plan.now c.args.names.now c.args.mappings.now _ c.loop-waiting.placed c.loop-waiting.stack.items c.loop-waiting.invariant in
    omega (arith, few, c.len-number.ensures)
