use Rattle.room_ast.specs.Trees.{class_view}
use Rattle.check_classes.specs.class_rules.Loops.{of_data}
use Rattle.check_classes.specs.class_rules.Names.{data_has_names}
use Rattle.check_classes.proofs.class_rules.Views.{all_next, all_fails}
use Rattle.check_classes.proofs.class_rules.names.all_have_field_names.Goals as goal

pub loop-class-preserved : goal.loop-class-preserved
loop-class-preserved c = all_next (of_data data_has_names) class_view c.args.classes.now c.loop-class.class-index c.class-item.result _ c.loop-class-test.true c.class-item.is c.in_ok-class_has_field_names.ensures c.if-not-branch.false c.loop-class.invariant

pub returns-then-not-branch : goal.returns-then-not-branch
returns-then-not-branch c = all_fails (of_data data_has_names) class_view c.args.classes.now c.loop-class.class-index c.class-item.result _ c.loop-class-test.true c.class-item.is c.in_ok-class_has_field_names.ensures c.if-not-branch.true
