use Rattle.std.proofs.Common.{slice_index_or, sym, ap, ◌∙◌, arith}
use Rattle.actor_world.proofs.Slots.{own_in_range}
use Rattle.controller_actors.specs.Bodies.{vacant}
use Rattle.controller_actors.proofs.OwnRows.{at_own, at_other}
use Rattle.controller_actors.proofs.actors.Actors.slot.Goals as goal

pub returns-then-not-is_own : goal.returns-then-not-is_own
returns-then-not-is_own c =
    sym (at_other c.args.plant.now.wiring c.args.me.0 c.args.self.now.slots.items c.args.slot.0 (sym c.is_own.ensures ∙ c.if-not-is_own.true))

pub row_of-requires : goal.row_of-requires
row_of-requires c = own_in_range c.args.plant.now.wiring c.args.me.0 c.args.slot.0 (sym c.is_own.ensures ∙ c.if-not-is_own.false)

pub returns : goal.returns
returns c =
    let t = c.args.plant.now.wiring in
    let slots = c.args.self.now.slots.items in
    let own = sym c.is_own.ensures ∙ c.if-not-is_own.false in
    c.get.ensures.lookup.4 (omega arith) vacant
    ∙ ap (λ xs. slice_index_or xs c.row_of.result vacant) c.as_slice.ensures.value
    ∙ ap (λ i. slice_index_or slots i vacant) (c.row_of.ensures c.args.me.0 own)
    ∙ sym (at_own t c.args.me.0 slots c.args.slot.0 own)
