use Rattle.std.proofs.Common.{◌≡◌, take}
use Rattle.std.specs.List.{filter_map}
use Rattle.name_tables.specs.name_numbers.Names.{names_of}
use Rattle.check_classes.specs.class_rules.Ends.{interface_service}
use Rattle.check_classes.proofs.class_rules.ends.interface_services.Given as goal

abbrev pub invariant-loop-item : goal.invariant-loop-item
invariant-loop-item l = names_of l.names.items ≡ filter_map interface_service (take l.item-index l.items)
