use Rattle.std.proofs.Common.{◌≡◌, take, map}
use Rattle.name_tables.specs.name_numbers.Names.{names_of}
use Rattle.room_ast.specs.model_parts.Ports.{interface_name}
use Rattle.check_classes.proofs.class_rules.names.interface_names.Given as goal

abbrev pub invariant-loop-item : goal.invariant-loop-item
invariant-loop-item l = names_of l.names.items ≡ map interface_name (take l.item-index l.items)
