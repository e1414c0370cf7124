use Rattle.std.proofs.Common.{◌≡◌, ◌++◌, take}
use Rattle.std.specs.List.{filter_map}
use Rattle.room_ast.specs.model_parts.Ports.{structure_entry}
use Rattle.check_tables.proofs.class_tables.ports.port_entries.Given as goal

abbrev pub invariant-loop-item : goal.invariant-loop-item
invariant-loop-item l = l.ports.items ≡ l.initial.ports.items ++ filter_map (structure_entry l.protocols) (take l.item-index l.structure)
