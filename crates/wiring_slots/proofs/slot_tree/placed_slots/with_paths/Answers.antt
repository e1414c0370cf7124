use Rattle.std.proofs.Common.{arith}
use Rattle.wiring_slots.proofs.slot_tree.PlacedSlots.{path_given}
use Rattle.wiring_slots.proofs.slot_tree.placed_slots.with_paths.Goals as goal

pub loop-number-preserved : goal.loop-number-preserved
loop-number-preserved c =
    path_given c.args.paths.now c.args.slots.now c.loop-number.number c.loop-number.named.items _ c.loop-number.invariant c.in_ok-path.field-0 _ c.in_ok-path.ensures (omega arith)
    c.push.new.self.items c.with_path.result c.with_path.ensures c.in_ok-push.ensures.items
