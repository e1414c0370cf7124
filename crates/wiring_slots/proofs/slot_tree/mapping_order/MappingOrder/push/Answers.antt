use Rattle.std.proofs.Common.{◌∙◌, [], ap}
use Rattle.wiring_slots.specs.slot_tree.Continuing.{plans_behind}
use Rattle.wiring_slots.proofs.slot_tree.Continuing.{order_pushed, plans_pushed}
use Rattle.wiring_slots.proofs.slot_tree.mapping_order.MappingOrder.push.Goals as goal

pub invariant_of-self-2 : goal.invariant_of-self-2
invariant_of-self-2 c =
    rw (c.in_ok-push-2.ensures.items, c.in_ok-push.ensures.items)
    (order_pushed c.args.self.now c.self.inside.plans.items c.self.inside.ends.items (record { kept = c.args.kept; own = c.args.own }) c.self.view_is c.self.invariant c.requires.there c.requires.few)

pub returns : goal.returns
returns c = ap (plans_behind []) c.in_ok-push-2.ensures.items ∙ plans_pushed c.args.self.now c.self.inside.plans.items (record { kept = c.args.kept; own = c.args.own }) c.self.view_is
