use Rattle.std.proofs.Common.{◌∙◌, ◌-◌, ◌<◌, List, sym, ap, refl, arith}
use Rattle.std.specs.Prelude.{slice_get}
use Rattle.std.proofs.lemmas.Option.{slice_get_read}
use Rattle.wiring_slots.specs.declared.slot_tree.mapping_order.Continued.{Continued}
use Rattle.wiring_slots.proofs.slot_tree.Continuing.{own_step, few_steps, not_first, prior_step, none_next}
use Rattle.wiring_slots.proofs.slot_tree.mapping_order.MappingOrder.next_step.Goals as goal

pub returns-then-mapping-trail-clause-value : goal.returns-then-mapping-trail-clause-value
returns-then-mapping-trail-clause-value c =
    let found = c.in-Some.ensures.lookup in
    let i = c.loop-mapping.at in
    let there = sym (ap (λ (cs : List Continued). slice_get cs i) c.as_slice.ensures.value) ∙ slice_get_read c.as_slice.result.now _ i c.in-Some.mapping.now refl found.3.0 found.1 in
    c.own_step.ensures
    ∙ own_step c.args.self.now c.self.inside.plans.items c.self.inside.ends.items c.self.view_is c.self.invariant i c.in-Some.mapping.now there c.args.trail.steps c.if-mapping-trail.true
    ∙ c.loop-mapping.invariant

pub returns-then-mapping-trail-clause-within : goal.returns-then-mapping-trail-clause-within
returns-then-mapping-trail-clause-within c =
    let found = c.in-Some.ensures.lookup in
    let i = c.loop-mapping.at in
    let there = sym (ap (λ (cs : List Continued). slice_get cs i) c.as_slice.ensures.value) ∙ slice_get_read c.as_slice.result.now _ i c.in-Some.mapping.now refl found.3.0 found.1 in
    few_steps c.args.self.now c.self.inside.plans.items c.self.inside.ends.items c.self.view_is c.self.invariant i c.in-Some.mapping.now there c.args.trail.steps c.own_step.result c.if-mapping-trail.true c.own_step.ensures

pub loop-mapping-preserved : goal.loop-mapping-preserved
loop-mapping-preserved c =
    let found = c.in-Some.ensures.lookup in
    let i = c.loop-mapping.at in
    let there = sym (ap (λ (cs : List Continued). slice_get cs i) c.as_slice.ensures.value) ∙ slice_get_read c.as_slice.result.now _ i c.in-Some.mapping.now refl found.3.0 found.1 in
    let later : _ < i = not_first c.args.self.now c.self.inside.plans.items c.self.inside.ends.items c.self.view_is c.self.invariant i c.in-Some.mapping.now there c.args.trail.steps c.if-mapping-trail.false in
    prior_step c.args.self.now c.self.inside.plans.items c.self.inside.ends.items c.self.view_is c.self.invariant i c.in-Some.mapping.now there c.args.trail.steps (i - 1) c.if-mapping-trail.false (omega (arith, later))
    ∙ c.loop-mapping.invariant

pub returns-clause-value : goal.returns-clause-value
returns-clause-value c =
    none_next c.args.self.now c.self.inside.plans.items c.self.view_is c.loop-mapping.at c.args.trail.steps (rw c.as_slice.ensures.value at c.in_default.ensures.lookup.3)
    ∙ c.loop-mapping.invariant
