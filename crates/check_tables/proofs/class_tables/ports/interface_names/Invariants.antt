use Rattle.std.proofs.Common.{◌≡◌, ◌∷◌, take, map}
use Rattle.name_tables.specs.name_numbers.Names.{names_of}
use Rattle.room_ast.specs.model_parts.Ports.{frame_name, interface_name}
use Rattle.check_tables.proofs.class_tables.ports.interface_names.Given as goal

abbrev pub invariant-loop-item : goal.invariant-loop-item
invariant-loop-item l = names_of l.names.items ≡ frame_name ∷ map interface_name (take l.item-index l.items)
