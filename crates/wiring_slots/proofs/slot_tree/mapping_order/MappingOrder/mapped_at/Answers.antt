use Rattle.std.proofs.Common.{◌∙◌, List, sym, ap, refl}
use Rattle.std.specs.Prelude.{slice_get}
use Rattle.std.proofs.lemmas.Option.{slice_get_read}
use Rattle.wiring_slots.specs.declared.slot_tree.mapping_order.Continued.{Continued}
use Rattle.wiring_slots.proofs.slot_tree.Continuing.{mapped_here, mapped_on, none_mapped}
use Rattle.wiring_slots.proofs.slot_tree.mapping_order.MappingOrder.mapped_at.Goals as goal

pub returns-then-has_steps : goal.returns-then-has_steps
returns-then-has_steps c =
    let found = c.in-Some.ensures.lookup in
    let i = c.args.trail.mapping in
    let there = sym (ap (λ (cs : List Continued). slice_get cs i) c.as_slice.ensures.value) ∙ slice_get_read c.as_slice.result.now _ i c.in-Some.mapping.now refl found.3.0 found.1 in
    mapped_here c.args.self.now c.self.inside.plans.items c.self.inside.ends.items c.self.view_is c.self.invariant i c.in-Some.mapping.now there c.args.trail.steps c.has_steps.result c.if-has_steps.true c.has_steps.ensures

pub returns-else-has_steps : goal.returns-else-has_steps
returns-else-has_steps c =
    let found = c.in-Some.ensures.lookup in
    let i = c.args.trail.mapping in
    let there = sym (ap (λ (cs : List Continued). slice_get cs i) c.as_slice.ensures.value) ∙ slice_get_read c.as_slice.result.now _ i c.in-Some.mapping.now refl found.3.0 found.1 in
    mapped_on c.args.self.now c.self.inside.plans.items c.self.inside.ends.items c.self.view_is c.self.invariant i c.in-Some.mapping.now there c.args.trail.steps c.has_steps.result c.if-has_steps.false c.has_steps.ensures

pub returns-in_default : goal.returns-in_default
returns-in_default c =
    none_mapped c.args.self.now c.self.inside.plans.items c.self.view_is c.args.trail.mapping c.args.trail.steps (rw c.as_slice.ensures.value at c.in_default.ensures.lookup.3)
