use Rattle.std.proofs.Common.{◌≡◌, take}
use Rattle.std.specs.List.{filter_map}
use Rattle.name_tables.specs.name_numbers.Names.{names_of}
use Rattle.room_ast.specs.model_parts.Ports.{external_name}
use Rattle.check_tables.proofs.class_tables.ports.external_names.Given as goal

abbrev pub invariant-loop-item : goal.invariant-loop-item
invariant-loop-item l = names_of l.names.items ≡ filter_map external_name (take l.item-index l.items)
