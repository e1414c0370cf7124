use Rattle.std.proofs.Common.{◌≡◌, take, map}
use Rattle.std.specs.List.{filter_map}
use Rattle.room_ast.specs.Trees.{class_view}
use Rattle.room_ast.specs.model_parts.Classes.{as_subsystem}
use Rattle.check_tables.specs.class_tables.Containers.{subsystem_container}
use Rattle.check_tables.proofs.class_tables.tables.containers_of_subsystems.Given as goal

abbrev pub invariant-loop-class : goal.invariant-loop-class
invariant-loop-class l = l.containers.items ≡ map (subsystem_container l.actors) (filter_map as_subsystem (map class_view (take l.class-index l.classes)))
