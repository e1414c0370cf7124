use Rattle.std.proofs.Common.{◌≡◌, take, map}
use Rattle.std.specs.List.{filter_map}
use Rattle.name_tables.specs.name_numbers.Names.{names_of}
use Rattle.room_ast.specs.model_parts.Types.{as_field}
use Rattle.check_classes.proofs.class_rules.names.field_names.Given as goal

abbrev pub invariant-loop-item : goal.invariant-loop-item
invariant-loop-item l = names_of l.names.items ≡ map (λ f. f.name) (filter_map as_field (take l.item-index l.items))
