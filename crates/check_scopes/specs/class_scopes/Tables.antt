-- The tables of a model's data classes, and of the messages that ports have.
use Rattle.std.specs.Prelude.{◌≡◌, map}
use Rattle.room_ast.specs.Trees.{ModelTree}
use Rattle.room_ast.specs.model_parts.Classes.{data_names, data_classes, protocols}
use Rattle.room_ast.specs.model_parts.Types.{data_types}
use Rattle.check_scopes.specs.number_kinds.Kinds.{AreKinds}
use Rattle.check_scopes.specs.class_scopes.Fields.{fields_kept}
use Rattle.check_scopes.specs.class_scopes.Making.{TablesView}
use Rattle.check_scopes.specs.class_scopes.ByKinds.{table_by}

-- These are the tables of a model.
pub record AreTables (m : ModelTree) (t : TablesView) : Type 0 where
  pub kinds : AreKinds (data_types m) t.kinds
  pub fields : t.fields ≡ map (fields_kept (data_names m) t.kinds) (data_classes m)
  pub signals : t.signals ≡ table_by (data_names m) t.kinds (protocols m)
