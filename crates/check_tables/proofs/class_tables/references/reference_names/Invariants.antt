use Rattle.std.proofs.Common.{◌≡◌, take, map}
use Rattle.std.specs.List.{filter_map}
use Rattle.name_tables.specs.name_numbers.Names.{names_of}
use Rattle.room_ast.specs.model_parts.References.{as_reference}
use Rattle.check_tables.proofs.class_tables.references.reference_names.Given as goal

abbrev pub invariant-loop-item : goal.invariant-loop-item
invariant-loop-item l = names_of l.names.items ≡ map (λ r. r.name) (filter_map as_reference (take l.item-index l.items))
