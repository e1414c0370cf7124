use Rattle.std.proofs.Common.{◌≡◌, take, map}
use Rattle.std.specs.List.{filter_map}
use Rattle.room_ast.specs.Trees.{class_view}
use Rattle.room_ast.specs.model_parts.Classes.{as_data}
use Rattle.check_scopes.specs.class_scopes.Fields.{field_view, fields_kept}
use Rattle.check_scopes.proofs.class_scopes.fields.fields_of_classes.Given as goal

abbrev pub invariant-loop-class : goal.invariant-loop-class
invariant-loop-class l = map (map field_view) l.table.items ≡ map (fields_kept l.names l.kinds) (filter_map as_data (map class_view (take l.class-index l.classes)))
