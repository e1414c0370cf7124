use Rattle.std.proofs.Common.{◌≡◌, take, map}
use Rattle.std.specs.List.{filter_map}
use Rattle.room_ast.specs.Trees.{class_view}
use Rattle.room_ast.specs.model_parts.Classes.{as_system}
use Rattle.check_classes.specs.class_rules.Systems.{systems_in}
use Rattle.check_classes.proofs.class_rules.system.systems.Given as goal

abbrev pub invariant-loop-class : goal.invariant-loop-class
invariant-loop-class l = systems_in l.systems.items ≡ filter_map as_system (map class_view (take l.class-index l.classes))
