use Rattle.std.proofs.Common.{◌≡◌, take, map}
use Rattle.std.specs.List.{filter_map}
use Rattle.room_ast.specs.Trees.{class_view}
use Rattle.room_ast.specs.model_parts.Classes.{as_actor}
use Rattle.check_tables.specs.class_tables.Containers.{actor_container}
use Rattle.check_tables.proofs.class_tables.tables.containers_of_actors.Given as goal

abbrev pub invariant-loop-class : goal.invariant-loop-class
invariant-loop-class l = l.containers.items ≡ map (actor_container l.protocols l.actors) (filter_map as_actor (map class_view (take l.class-index l.classes)))
