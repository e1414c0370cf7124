use Rattle.std.proofs.Common.{◌≡◌, map, take}
use Rattle.name_tables.specs.name_numbers.Names.{names_of}
use Rattle.room_ast.specs.Trees.{class_view}
use Rattle.room_ast.specs.model_parts.Classes.{class_name}
use Rattle.room_inherit.proofs.rules.bases.class_names.Given as goal

abbrev pub invariant-loop-class : goal.invariant-loop-class
invariant-loop-class l = names_of l.names.items ≡ map class_name (map class_view (take l.class-index l.classes))
