use Rattle.std.proofs.Common.{map}
use Rattle.std.specs.List.{list_all}
use Rattle.room_ast.specs.Trees.{class_view, model_view}
use Rattle.check_classes.specs.class_rules.Types.{types_are_known, has_known_types}
use Rattle.check_classes.proofs.class_rules.Tables.{data_names, named_test}
use Rattle.check_classes.proofs.class_rules.types.has_known_types.Goals as goal

pub returns : goal.returns
unfolding has_known_types
returns c =
    named_test (λ ns cs. list_all (types_are_known ns) (map class_view cs)) _ _ _ _ _ c.are_known.ensures (data_names (model_view c.args.model.now) c.args.tables.now c.requires) c.as_slice.ensures
