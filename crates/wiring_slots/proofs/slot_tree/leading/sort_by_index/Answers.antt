use Rattle.std.proofs.Common.{arith}
use Rattle.wiring_slots.proofs.slot_tree.Cutting.{none_between}
use Rattle.wiring_slots.proofs.slot_tree.Sorting.{nothing_by_index, then_by_index}
use Rattle.wiring_slots.proofs.slot_tree.leading.sort_by_index.Goals as goal

pub loop-first-init : goal.loop-first-init
loop-first-init c new h = h

pub loop-first-preserved : goal.loop-first-preserved
loop-first-preserved c new h =
    c.loop-first.invariant new (
    then_by_index c.args.mappings.now c.args.reference c.args.run c.group_at-group.result c.loop-first.first c.loop-first.lists.items c.sort_group_by_index.new.lists.items new c.group_at-group.ensures
    c.in_ok-sort_group_by_index.ensures h
    )

pub returns : goal.returns
returns c =
    c.loop-first.invariant c.loop-first.lists.items (nothing_by_index c.args.mappings.now c.args.reference c.loop-first.lists.items _ (none_between c.args.run.steps c.loop-first.first c.args.run.end (omega arith)))
