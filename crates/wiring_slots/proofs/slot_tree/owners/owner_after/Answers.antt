use Rattle.std.proofs.Common.{◌∙◌, ap, List, Option, sym, arith}
use Rattle.std.specs.Prelude.{unwrap_or}
use Rattle.room_kinds.specs.declared.numbers.ControllerId.{ControllerId}
use Rattle.wiring_slots.specs.declared.slot_tree.owners.Trail.{Trail}
use Rattle.wiring_slots.specs.slot_tree.Owners.{owner_at}
use Rattle.wiring_slots.proofs.slot_tree.Cutting.{owner_of_group, none_between}
use Rattle.wiring_slots.proofs.slot_tree.owners.owner_after.Goals as goal

pub loop-first-preserved : goal.loop-first-preserved
loop-first-preserved c =
    owner_of_group c.args.mappings.now c.args.run c.group_at-group.result c.loop-first.first c.loop-first.owner c.unwrap_or-owner.result c.group_at-group.ensures
    (c.unwrap_or-owner.ensures ∙ ap (λ (o : Option ControllerId). unwrap_or o c.loop-first.owner) c.mapped_at-mapped.ensures)
    ∙ c.loop-first.invariant

pub returns : goal.returns
returns c =
    sym (ap (λ (ts : List Trail). owner_at c.args.mappings.now c.loop-first.owner ts) (none_between c.args.run.steps c.loop-first.first c.args.run.end (omega arith)))
    ∙ c.loop-first.invariant
