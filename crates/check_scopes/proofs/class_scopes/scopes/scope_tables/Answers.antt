use Rattle.std.proofs.Common.{map, ap}
use Rattle.room_ast.specs.Trees.{class_view, model_view}
use Rattle.check_classes.proofs.class_sizes.RuleLaws.{none_is_finite}
use Rattle.check_mappings.proofs.count_rules.NumberLaws.{names_of_tables}
use Rattle.check_scopes.proofs.class_scopes.ScopeLaws.{kinds_for, no_kinds_of, made_tables}
use Rattle.check_scopes.proofs.class_scopes.scopes.scope_tables.Goals as goal

pub unreachable-requires : goal.unreachable-requires
unreachable-requires c =
    none_is_finite (model_view c.args.model.now) c.args.tables.now c.as_slice.result.now c.requires.tables c.as_slice.ensures (no_kinds_of c.as_slice.result.now c.in_ok-kinds.field-0 c.in_ok-kinds.ensures c.in_default.is) c.requires.finite

pub returns : goal.returns
returns c =
    made_tables (model_view c.args.model.now) c.args.tables.now.names.data_classes c.in-Some.kinds.items (map class_view c.as_slice-2.result.now) c.tables_with.result
    (kinds_for (model_view c.args.model.now) c.args.tables.now c.as_slice.result.now c.in_ok-kinds.field-0 c.in-Some.kinds c.requires.tables c.as_slice.ensures c.in_ok-kinds.ensures c.in-Some.is)
    (names_of_tables (model_view c.args.model.now) c.args.tables.now c.requires.tables) (ap (map class_view) c.as_slice-2.ensures) c.tables_with.ensures.kinds c.tables_with.ensures.fields c.tables_with.ensures.signals
