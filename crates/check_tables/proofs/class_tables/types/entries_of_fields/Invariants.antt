use Rattle.std.proofs.Common.{◌≡◌, take, map}
use Rattle.std.specs.List.{filter_map}
use Rattle.room_ast.specs.model_parts.Types.{type_entry, as_field}
use Rattle.check_tables.proofs.class_tables.types.entries_of_fields.Given as goal

abbrev pub invariant-loop-item : goal.invariant-loop-item
invariant-loop-item l = l.entries.items ≡ map (λ f. type_entry l.classes f.type_name) (filter_map as_field (take l.item-index l.items))
