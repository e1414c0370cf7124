use Rattle.room_ast.specs.ChartTree.{item_view}
use Rattle.chart_trees.specs.Around.{state_name, entry_name, inner_entries}
use Rattle.chart_trees.proofs.Lists.{picked_next}
use Rattle.chart_trees.proofs.around.entries_of.Goals as goal

pub loop-item-preserved : goal.loop-item-preserved
loop-item-preserved c = picked_next entry_name item_view c.args.items.now c.loop-item.item-index c.item-item.result _ _ _ c.loop-item-test.true c.item-item.is c.entry_name.ensures c.loop-item.invariant c.in_ok-add_name.ensures
