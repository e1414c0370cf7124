use Rattle.check_mappings.proofs.mapping_rules.Pairing.{Paired}
use Rattle.check_mappings.proofs.mapping_rules.wired.wired_in.Given as goal

abbrev pub invariant-loop-class : goal.invariant-loop-class
invariant-loop-class l = Paired l.classes l.containers l.left l.wired.items l.class-index
