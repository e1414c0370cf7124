use Rattle.std.proofs.Common.{◌≡◌, drop}
use Rattle.std.specs.List.{list_all}
use Rattle.check_bindings.specs.structure_rules.Subsystems.{has_plain_references}
use Rattle.check_bindings.proofs.structure_rules.subsystems.all_have_plain_references.Given as goal

abbrev pub invariant-loop-class : goal.invariant-loop-class
invariant-loop-class l = list_all has_plain_references (drop l.class-index l.classes) ≡ list_all has_plain_references l.classes
