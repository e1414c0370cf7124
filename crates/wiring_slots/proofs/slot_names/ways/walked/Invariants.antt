use Rattle.wiring_slots.proofs.slot_names.Steps.{Walked}
use Rattle.wiring_slots.proofs.slot_names.ways.walked.Given as goal

abbrev pub invariant-loop-segment : goal.invariant-loop-segment
invariant-loop-segment l = Walked l.actors l.initial.reached l.reached l.segments l.segment-index
