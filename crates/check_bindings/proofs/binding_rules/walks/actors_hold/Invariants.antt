use Rattle.std.proofs.Common.{◌≡◌, drop, map}
use Rattle.room_ast.specs.Trees.{class_view}
use Rattle.room_ast.specs.model_parts.Classes.{as_actor}
use Rattle.check_bindings.specs.binding_rules.Walks.{actor_holds, walk}
use Rattle.check_bindings.proofs.binding_rules.walks.actors_hold.Given as goal

abbrev pub invariant-loop-class : goal.invariant-loop-class
invariant-loop-class l = walk as_actor (actor_holds l.rule l.actors) (map class_view (drop l.class-index l.classes)) (drop l.number l.actors) ≡ walk as_actor (actor_holds l.rule l.actors) (map class_view l.classes) l.actors
