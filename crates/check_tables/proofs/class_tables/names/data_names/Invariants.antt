use Rattle.std.proofs.Common.{◌≡◌, take, map}
use Rattle.std.specs.List.{filter_map}
use Rattle.name_tables.specs.name_numbers.Names.{names_of}
use Rattle.room_ast.specs.Trees.{class_view}
use Rattle.room_ast.specs.model_parts.Classes.{as_data}
use Rattle.check_tables.proofs.class_tables.names.data_names.Given as goal

abbrev pub invariant-loop-class : goal.invariant-loop-class
invariant-loop-class l = names_of l.names.items ≡ map (λ k. k.name) (filter_map as_data (map class_view (take l.class-index l.classes)))
