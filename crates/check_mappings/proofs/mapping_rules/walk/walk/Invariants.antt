use Rattle.check_mappings.proofs.mapping_rules.Steps.{Walked}
use Rattle.check_mappings.proofs.mapping_rules.walk.walk.Given as goal

abbrev pub invariant-loop-segment : goal.invariant-loop-segment
invariant-loop-segment l = Walked l.classes l.fn.place l.reached l.segments l.segment-index
