use Rattle.std.proofs.Common.{◌≡◌, take, map}
use Rattle.check_tables.specs.containment_rules.Circles.{classes_of_types}
use Rattle.check_tables.proofs.containment_rules.parts_of_data.Given as goal

abbrev pub invariant-loop-types : goal.invariant-loop-types
invariant-loop-types l = l.parts.items ≡ map classes_of_types (take l.types-index l.data_types)
