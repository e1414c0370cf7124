use Rattle.std.proofs.Common.{◌≡◌, take, map}
use Rattle.check_tables.specs.containment_rules.Circles.{classes_of_container}
use Rattle.check_tables.proofs.containment_rules.parts_of_actors.Given as goal

abbrev pub invariant-loop-container : goal.invariant-loop-container
invariant-loop-container l = l.parts.items ≡ map classes_of_container (take l.container-index l.containers)
