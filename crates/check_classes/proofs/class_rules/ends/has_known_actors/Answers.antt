use Rattle.std.proofs.Common.{map}
use Rattle.std.specs.List.{list_all}
use Rattle.room_ast.specs.Trees.{class_view, model_view}
use Rattle.check_classes.specs.class_rules.Ends.{references_have_classes, has_known_actors}
use Rattle.check_classes.proofs.class_rules.Tables.{actor_names, named_test}
use Rattle.check_classes.proofs.class_rules.ends.has_known_actors.Goals as goal

pub returns : goal.returns
unfolding has_known_actors
returns c =
    named_test (λ ns cs. list_all (references_have_classes ns) (map class_view cs)) _ _ _ _ _ c.have_classes.ensures (actor_names (model_view c.args.model.now) c.args.tables.now c.requires) c.as_slice.ensures
