use Rattle.std.proofs.Common.{◌≡◌, ◌-◌}
use Rattle.wiring_slots.specs.slot_tree.Owners.{owner_at}
use Rattle.wiring_slots.specs.slot_tree.Runs.{trails_between, trails_of}
use Rattle.wiring_slots.proofs.slot_tree.owners.owner_after.Given as goal

abbrev pub invariant-loop-first : goal.invariant-loop-first
invariant-loop-first l = owner_at l.mappings l.owner (trails_between l.run.steps l.first l.run.end) ≡ owner_at l.mappings l.fn.owner_before (trails_of l.run)

abbrev pub decreases-loop-first : goal.decreases-loop-first
decreases-loop-first l = l.run.end - l.first
