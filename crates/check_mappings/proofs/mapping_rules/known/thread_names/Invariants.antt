use Rattle.std.proofs.Common.{◌≡◌, map, take}
use Rattle.name_tables.specs.name_numbers.Names.{names_of}
use Rattle.room_ast.specs.Trees.{subsystem_item_view}
use Rattle.check_mappings.specs.mapping_rules.Rules.{thread_names}
use Rattle.check_mappings.proofs.mapping_rules.known.thread_names.Given as goal

abbrev pub invariant-loop-item : goal.invariant-loop-item
invariant-loop-item l = names_of l.names.items ≡ thread_names (map subsystem_item_view (take l.item-index l.items))
