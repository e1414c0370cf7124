use Rattle.std.proofs.Common.{◌∙◌, ap, ◌++◌, reverse, Some, List}
use Rattle.wiring_slots.specs.declared.slot_tree.children.Waiting.{Waiting}
use Rattle.room_wiring.specs.declared.slot.Slot.{Slot}
use Rattle.wiring_slots.proofs.slot_tree.PlacedWaiting.{too_many_at_top, ready_waiting, placed_all, placed_none}
use Rattle.wiring_slots.proofs.slot_tree.slots.slots_of.Goals as goal

pub returns-in_default : goal.returns-in_default
returns-in_default c = too_many_at_top c.args.plan.now c.args.names.now c.args.mappings.now c.in_ok-tops.field-0 c.in_default.is c.in_ok-tops.ensures

pub returns-in-Some-2 : goal.returns-in-Some-2
returns-in-Some-2 c =
    ap (λ (ss : List Slot). Some ss) c.from.ensures
    ∙ placed_all c.args.plan.now c.args.names.now c.args.mappings.now c.in_ok-tops.field-0 c.in-Some.tops c.in-Some.is c.in_ok-tops.ensures c.push_all.new.stack.items (c.in_ok-push_all.ensures ∙ ap (λ (ps : List Waiting). ps ++ reverse c.in-Some.tops.items) c.new-waiting.ensures.items) c.in_ok-slots.field-0 c.in-Some-2.slots c.in-Some-2.is c.in_ok-slots.ensures

pub returns-in-None : goal.returns-in-None
returns-in-None c =
    placed_none c.args.plan.now c.args.names.now c.args.mappings.now c.in_ok-tops.field-0 c.in-Some.tops c.in-Some.is c.in_ok-tops.ensures c.push_all.new.stack.items (c.in_ok-push_all.ensures ∙ ap (λ (ps : List Waiting). ps ++ reverse c.in-Some.tops.items) c.new-waiting.ensures.items) c.in_ok-slots.field-0 c.in-None.is c.in_ok-slots.ensures

pub place-requires-clause-ready : goal.place-requires-clause-ready
place-requires-clause-ready c =
    ready_waiting c.args.plan.now c.args.names.now c.args.mappings.now c.in_ok-tops.field-0 c.in-Some.tops c.in-Some.is c.in_ok-tops.ensures c.push_all.new.stack.items (c.in_ok-push_all.ensures ∙ ap (λ (ps : List Waiting). ps ++ reverse c.in-Some.tops.items) c.new-waiting.ensures.items)
