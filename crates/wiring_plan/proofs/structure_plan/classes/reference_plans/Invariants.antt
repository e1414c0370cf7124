use Rattle.std.proofs.Common.{◌≡◌, ◌++◌, drop, map}
use Rattle.wiring_plan.specs.structure_plan.Parts.{reference_plan}
use Rattle.wiring_plan.proofs.structure_plan.classes.reference_plans.Given as goal

abbrev pub invariant-loop-reference : goal.invariant-loop-reference
invariant-loop-reference l = l.plans.items ++ map reference_plan (drop l.reference-index l.references) ≡ map reference_plan l.references
