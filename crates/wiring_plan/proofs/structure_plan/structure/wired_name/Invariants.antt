use Rattle.std.proofs.Common.{◌≡◌, drop, map}
use Rattle.std.specs.List.{filter_map}
use Rattle.room_ast.specs.Trees.{class_view}
use Rattle.room_ast.specs.model_parts.Classes.{as_system, wired_name}
use Rattle.wiring_plan.proofs.structure_plan.structure.wired_name.Given as goal

abbrev pub invariant-loop-class : goal.invariant-loop-class
invariant-loop-class l = wired_name (filter_map as_system (map class_view (drop l.class-index l.classes))) ≡ wired_name (filter_map as_system (map class_view l.classes))
