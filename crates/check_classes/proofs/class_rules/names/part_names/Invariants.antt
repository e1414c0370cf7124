use Rattle.std.proofs.Common.{◌≡◌, ◌++◌, take}
use Rattle.std.specs.List.{filter_map}
use Rattle.name_tables.specs.name_numbers.Names.{names_of}
use Rattle.check_classes.specs.class_rules.Names.{declared_name}
use Rattle.check_classes.proofs.class_rules.names.part_names.Given as goal

abbrev pub invariant-loop-item : goal.invariant-loop-item
invariant-loop-item l = names_of l.names.items ≡ names_of l.initial.names.items ++ filter_map declared_name (take l.item-index l.structure)
