use Rattle.std.proofs.Common.{◌∙◌, length, sym, ap, subst, arith}
use Rattle.binding_expand.specs.Steps.{Completes}
use Rattle.binding_expand.proofs.Limits.{same_count, few_controllers, made, consistent}
use Rattle.binding_expand.proofs.tables.wiring_with.Goals as goal

pub overflow_cast-len : goal.overflow_cast-len
overflow_cast-len c = let few = few_controllers c.args.slots c.requires.wired in omega (arith, few, c.len.ensures)

pub told_controllers-requires-clause-joined : goal.told_controllers-requires-clause-joined
told_controllers-requires-clause-joined c = ap length c.as_slice-2.ensures.value ∙ same_count c.args.slots.plan c.args.slots.slots c.args.places c.requires.places ∙ sym (ap length c.as_slice-3.ensures)

pub new-requires : goal.new-requires
new-requires c =
    consistent c.args.slots c.assemble-tables.result c.requires.wired
    (made c.args.slots c.args.places c.assemble-tables.result c.as_slice.result.now c.as_slice-2.result.now c.as_slice-3.result.now c.len.result c.in_ok-told.told c.requires.places c.as_slice.ensures c.as_slice-2.ensures.value
    c.as_slice-3.ensures c.len.ensures c.in_ok-told.ensures c.assemble-tables.ensures)

pub returns : goal.returns
returns c =
    subst (Completes c.args.slots) (sym c.new.ensures)
    (made c.args.slots c.args.places c.assemble-tables.result c.as_slice.result.now c.as_slice-2.result.now c.as_slice-3.result.now c.len.result c.in_ok-told.told c.requires.places c.as_slice.ensures c.as_slice-2.ensures.value
    c.as_slice-3.ensures c.len.ensures c.in_ok-told.ensures c.assemble-tables.ensures)
