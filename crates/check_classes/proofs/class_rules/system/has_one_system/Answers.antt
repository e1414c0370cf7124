use Rattle.std.proofs.Common.{map}
use Rattle.std.specs.List.{filter_map}
use Rattle.std.proofs.lemmas.Result.{IfOk-weaker}
use Rattle.room_ast.specs.Trees.{class_view, model_view}
use Rattle.room_ast.specs.model_parts.Classes.{as_system}
use Rattle.check_classes.specs.class_rules.Names.{is_one_system, has_one_system}
use Rattle.check_classes.proofs.class_rules.Tables.{subsystem_names, named_test}
use Rattle.check_classes.proofs.class_rules.system.has_one_system.Goals as goal

pub returns : goal.returns
unfolding has_one_system
returns c =
    IfOk-weaker c.has_system.result _ _
    (λ b e. named_test (λ ns cs. is_one_system ns (filter_map as_system (map class_view cs))) b _ _ _ _ e (subsystem_names (model_view c.args.model.now) c.args.tables.now c.requires) c.as_slice.ensures) c.has_system.ensures
