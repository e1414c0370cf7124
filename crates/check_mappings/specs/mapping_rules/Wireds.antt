-- A subsystem class as the code keeps it.
use Rattle.std.specs.Prelude.{map}
use Rattle.room_ast.specs.Trees.{subsystem_item_view}
use Rattle.check_mappings.specs.mapping_rules.Rules.{Wired}
use Rattle.check_mappings.specs.declared.mapping_rules.wired.Wired.{Wired as CodeWired}

abbrev pub wired_view : CodeWired → Wired
wired_view w = record { items = map subsystem_item_view w.items.now; container = w.container.now }
