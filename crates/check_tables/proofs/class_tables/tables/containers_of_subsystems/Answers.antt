use Rattle.room_ast.specs.Trees.{class_view}
use Rattle.room_ast.specs.model_parts.Classes.{as_subsystem}
use Rattle.check_tables.specs.class_tables.Containers.{subsystem_container}
use Rattle.check_tables.proofs.class_tables.Lists.{viewed_next}
use Rattle.check_tables.proofs.class_tables.tables.containers_of_subsystems.Goals as goal

pub loop-class-preserved : goal.loop-class-preserved
loop-class-preserved c =
    viewed_next (subsystem_container c.args.actors.now) as_subsystem class_view c.args.classes.now c.loop-class.class-index c.class-item.result _ _ _ c.loop-class-test.true c.class-item.is c.in_ok-container_if_subsystem.ensures c.loop-class.invariant c.in_ok-push_if.ensures
