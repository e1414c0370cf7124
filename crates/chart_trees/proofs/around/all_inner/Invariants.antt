use Rattle.std.proofs.Common.{◌≡◌, take, map}
use Rattle.std.specs.List.{filter_map}
use Rattle.name_tables.specs.name_numbers.Names.{names_of}
use Rattle.room_ast.specs.ChartTree.{item_view}
use Rattle.chart_trees.specs.Around.{state_name, entry_name, inner_entries}
use Rattle.chart_trees.proofs.around.all_inner.Given as goal

abbrev pub invariant-loop-item : goal.invariant-loop-item
invariant-loop-item l = l.inner.items ≡ filter_map inner_entries (map item_view (take l.item-index l.items))
