use Rattle.std.proofs.Common.{◌∙◌, sym, ap}
use Rattle.wiring_slots.specs.declared.slot_tree.owners.Trail.{Trail}
use Rattle.wiring_slots.specs.declared.slot_tree.runs.Run.{Run}
use Rattle.wiring_slots.specs.slot_tree.Owners.{next_step}
use Rattle.wiring_slots.specs.slot_tree.Runs.{trails_of}
use Rattle.wiring_slots.specs.slot_tree.Leading.{added_by_index}
use Rattle.wiring_slots.proofs.slot_tree.Sorting.{group_by_index, other_by_index, no_group_by_index}
use Rattle.wiring_slots.proofs.slot_tree.leading.sort_group_by_index.Goals as goal

pub returns-in_default : goal.returns-in_default
returns-in_default c =
    no_group_by_index c.args.mappings.now c.args.reference c.args.group c.args.lists.now.items c.requires
    (
    sym (c.next_step.ensures.value ∙ ap (λ (t : Trail). next_step c.args.mappings.now t) c.head.ensures)
    ∙ c.in_default.is
    )

pub returns-in_ok-add_by_index : goal.returns-in_ok-add_by_index
returns-in_ok-add_by_index c =
    group_by_index c.args.mappings.now c.args.reference c.args.group c.in-Some.step c.args.lists.now.items c.add_by_index.new.lists.items c.requires
    (
    sym (c.next_step.ensures.value ∙ ap (λ (t : Trail). next_step c.args.mappings.now t) c.head.ensures)
    ∙ c.in-Some.is
    )
    c.if-step-reference.true
    (c.in_ok-add_by_index.ensures ∙ ap (λ (g : Run). added_by_index c.in-Some.step.index (trails_of g) c.args.lists.now.items) c.further.ensures)

pub returns-else-step-reference : goal.returns-else-step-reference
returns-else-step-reference c =
    other_by_index c.args.mappings.now c.args.reference c.args.group c.in-Some.step c.args.lists.now.items c.requires
    (
    sym (c.next_step.ensures.value ∙ ap (λ (t : Trail). next_step c.args.mappings.now t) c.head.ensures)
    ∙ c.in-Some.is
    )
    c.if-step-reference.false
