use Rattle.room_ast.specs.Trees.{model_view}
use Rattle.wiring_plan.proofs.wiring_classes.KindLaws.{no_names}
use Rattle.wiring_plan.proofs.wiring_classes.classes.classes_of.Goals as goal

pub returns-in_default : goal.returns-in_default
returns-in_default c =
    absurd (no_names (model_view c.args.model.now) c.args.tables c.as_slice.result.now c.in_ok-kinds.field-0 c.requires.tables c.as_slice.ensures c.in_ok-kinds.ensures c.in_default.is c.requires.finite)
