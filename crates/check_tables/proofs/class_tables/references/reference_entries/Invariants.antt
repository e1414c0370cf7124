use Rattle.std.proofs.Common.{◌≡◌, take, map}
use Rattle.std.specs.List.{filter_map}
use Rattle.room_ast.specs.model_parts.References.{as_reference, reference_entry}
use Rattle.check_tables.proofs.class_tables.references.reference_entries.Given as goal

abbrev pub invariant-loop-item : goal.invariant-loop-item
invariant-loop-item l = l.entries.items ≡ map (reference_entry l.actors) (filter_map as_reference (take l.item-index l.items))
