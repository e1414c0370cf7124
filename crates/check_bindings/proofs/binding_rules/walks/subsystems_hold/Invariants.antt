use Rattle.std.proofs.Common.{◌≡◌, drop, map}
use Rattle.room_ast.specs.Trees.{class_view}
use Rattle.room_ast.specs.model_parts.Classes.{as_subsystem}
use Rattle.check_bindings.specs.binding_rules.Walks.{subsystem_holds, walk}
use Rattle.check_bindings.proofs.binding_rules.walks.subsystems_hold.Given as goal

abbrev pub invariant-loop-class : goal.invariant-loop-class
invariant-loop-class l = walk as_subsystem (subsystem_holds l.rule l.actors) (map class_view (drop l.class-index l.classes)) (drop l.number l.subsystems) ≡ walk as_subsystem (subsystem_holds l.rule l.actors) (map class_view l.classes) l.subsystems
