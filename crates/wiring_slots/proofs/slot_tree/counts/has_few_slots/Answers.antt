use Rattle.wiring_slots.proofs.slot_tree.Alike.{few_found, none_found}
use Rattle.wiring_slots.proofs.slot_tree.counts.has_few_slots.Goals as goal

pub returns-in-Some : goal.returns-in-Some
returns-in-Some c = few_found c.args.plan.now _ _ c.in_ok-slots_of.field-0 c.in_ok-slots_of.ensures c.in-Some.field-0 c.in-Some.is

pub returns : goal.returns
returns c = none_found c.args.plan.now _ _ c.in_ok-slots_of.field-0 c.in_ok-slots_of.ensures c.in-None.is
