use Rattle.std.proofs.Common.{◌<◌, length, arith}
use Rattle.wiring_slots.specs.slot_tree.Runs.{trails_of}
use Rattle.wiring_slots.proofs.slot_tree.Sorting.{each_more}
use Rattle.wiring_slots.proofs.slot_tree.leading.add_to_each.Goals as goal

pub loop-number-preserved : goal.loop-number-preserved
loop-number-preserved c =
    let lt : c.loop-number.number < length c.args.lists.now.items = omega arith in
    record {
      so_far = each_more (trails_of c.args.run) c.args.lists.now.items c.loop-number.lists.items c.loop-number.number c.index_mut.result.now c.push.new.self c.index_mut.result.now c.loop-number.invariant.so_far lt c.index_mut.ensures.value c.in_ok-push.ensures;
      end = c.loop-number.invariant.end;
    }
