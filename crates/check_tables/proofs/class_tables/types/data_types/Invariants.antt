use Rattle.std.proofs.Common.{◌≡◌, take, map}
use Rattle.std.specs.List.{filter_map}
use Rattle.room_ast.specs.Trees.{class_view}
use Rattle.room_ast.specs.model_parts.Types.{field_types}
use Rattle.room_ast.specs.model_parts.Classes.{as_data}
use Rattle.check_tables.proofs.class_tables.types.data_types.Given as goal

abbrev pub invariant-loop-class : goal.invariant-loop-class
invariant-loop-class l = l.types.items ≡ map (field_types l.classes) (filter_map as_data (map class_view (take l.class-index l.declared)))
