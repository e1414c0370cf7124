use Rattle.std.proofs.Common.{◌≡◌, length, ap, subst, arith}
use Rattle.wiring_slots.specs.slot_tree.MappingOrders.{EndsAlike}
use Rattle.wiring_slots.proofs.slot_tree.Continuing.{order_closed, count_is}
use Rattle.wiring_slots.proofs.slot_tree.mapping_order.MappingOrder.close.Goals as goal

pub invariant_of-self : goal.invariant_of-self
invariant_of-self c =
    let kept = c.self.inside.plans.ok in
    let seen = ap length c.self.view_is in
    let count = count_is c.self.inside.plans.items in
    let told = c.len.ensures in
    let all : length c.args.self.now ≡ c.len.result = omega (arith, kept, seen, count, told) in
    order_closed c.args.self.now c.self.inside.plans.items c.self.inside.ends.items c.args.first c.len.result c.self.view_is c.self.invariant c.requires.inside
    (subst (λ n. EndsAlike c.args.self.now c.args.first n) all c.requires.alike)
