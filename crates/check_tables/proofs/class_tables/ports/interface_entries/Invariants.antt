use Rattle.std.proofs.Common.{◌≡◌, ◌∷◌, take, map}
use Rattle.room_ast.specs.model_parts.Ports.{frame_entry, interface_entry}
use Rattle.check_tables.proofs.class_tables.ports.interface_entries.Given as goal

abbrev pub invariant-loop-item : goal.invariant-loop-item
invariant-loop-item l = l.ports.items ≡ frame_entry ∷ map (interface_entry l.protocols l.externals) (take l.item-index l.items)
