use Rattle.room_ast.specs.Trees.{class_view}
use Rattle.check_classes.specs.class_rules.Loops.{of_protocol}
use Rattle.check_classes.specs.class_rules.Names.{protocol_has_names}
use Rattle.check_classes.proofs.class_rules.Views.{all_next, all_fails}
use Rattle.check_classes.proofs.class_rules.names.all_have_message_names.Goals as goal

pub loop-class-preserved : goal.loop-class-preserved
loop-class-preserved c = all_next (of_protocol protocol_has_names) class_view c.args.classes.now c.loop-class.class-index c.class-item.result _ c.loop-class-test.true c.class-item.is c.in_ok-class_has_message_names.ensures c.if-not-branch.false c.loop-class.invariant

pub returns-then-not-branch : goal.returns-then-not-branch
returns-then-not-branch c = all_fails (of_protocol protocol_has_names) class_view c.args.classes.now c.loop-class.class-index c.class-item.result _ c.loop-class-test.true c.class-item.is c.in_ok-class_has_message_names.ensures c.if-not-branch.true
