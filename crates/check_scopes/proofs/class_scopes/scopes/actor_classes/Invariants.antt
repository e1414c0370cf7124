use Rattle.std.proofs.Common.{◌≡◌, take, map}
use Rattle.std.specs.List.{filter_map}
use Rattle.room_ast.specs.Trees.{class_view}
use Rattle.room_ast.specs.model_parts.Classes.{as_actor}
use Rattle.check_scopes.specs.class_scopes.Making.{actor_views}
use Rattle.check_scopes.proofs.class_scopes.scopes.actor_classes.Given as goal

abbrev pub invariant-loop-class : goal.invariant-loop-class
invariant-loop-class l = actor_views l.actors.items ≡ filter_map as_actor (map class_view (take l.class-index l.classes))
