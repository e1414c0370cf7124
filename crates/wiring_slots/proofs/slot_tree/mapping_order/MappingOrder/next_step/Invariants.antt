use Rattle.std.proofs.Common.{◌≡◌}
use Rattle.wiring_slots.specs.slot_tree.Owners.{next_step}
use Rattle.wiring_slots.specs.slot_tree.Runs.{trail_at}
use Rattle.wiring_slots.proofs.slot_tree.mapping_order.MappingOrder.next_step.Given as goal

-- the mapping that is looked at has the step
abbrev pub invariant-loop-mapping : goal.invariant-loop-mapping
invariant-loop-mapping l = next_step l.self (trail_at l.trail.steps l.at) ≡ next_step l.self l.trail

abbrev pub decreases-loop-mapping : goal.decreases-loop-mapping
decreases-loop-mapping l = l.at
