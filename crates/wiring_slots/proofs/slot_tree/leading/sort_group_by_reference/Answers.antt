use Rattle.std.proofs.Common.{◌∙◌, ℕ, sym, ap}
use Rattle.wiring_slots.specs.declared.slot_tree.owners.Trail.{Trail}
use Rattle.wiring_slots.specs.slot_tree.Owners.{next_step}
use Rattle.wiring_slots.specs.slot_tree.Runs.{trails_of}
use Rattle.wiring_slots.specs.slot_tree.Leading.{added_at}
use Rattle.wiring_slots.proofs.slot_tree.Sorting.{group_by_reference, no_group_by_reference}
use Rattle.wiring_slots.proofs.slot_tree.leading.sort_group_by_reference.Goals as goal

pub returns-in_ok-add_at : goal.returns-in_ok-add_at
returns-in_ok-add_at c =
    group_by_reference c.args.mappings.now c.args.group c.in-Some.step c.args.lists.now.items c.add_at.new.lists.items c.requires
    (
    sym (c.next_step.ensures.value ∙ ap (λ (t : Trail). next_step c.args.mappings.now t) c.head.ensures)
    ∙ c.in-Some.is
    )
    (c.in_ok-add_at.ensures ∙ ap (λ (n : ℕ). added_at n (trails_of c.args.group) c.args.lists.now.items) c.from.ensures)

pub returns-in_default : goal.returns-in_default
returns-in_default c =
    no_group_by_reference c.args.mappings.now c.args.group c.args.lists.now.items c.requires
    (
    sym (c.next_step.ensures.value ∙ ap (λ (t : Trail). next_step c.args.mappings.now t) c.head.ensures)
    ∙ c.in_default.is
    )
