use Rattle.std.proofs.Common.{◌≡◌, ◌++◌, drop, map}
use Rattle.wiring_plan.specs.structure_plan.Parts.{port_plan}
use Rattle.wiring_plan.proofs.structure_plan.classes.port_plans.Given as goal

abbrev pub invariant-loop-port : goal.invariant-loop-port
invariant-loop-port l = l.plans.items ++ map port_plan (drop l.port-index l.ports) ≡ map port_plan l.ports
