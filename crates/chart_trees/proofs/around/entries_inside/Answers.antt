use Rattle.std.proofs.Common.{◌≡◌, List, map, subst}
use Rattle.std.specs.Prelude.{IfOk}
use Rattle.room_ast.specs.declared.chart.GraphItem.{GraphItem}
use Rattle.room_ast.specs.ChartTree.{item_view}
use Rattle.chart_trees.specs.Around.{entries_of}
use Rattle.chart_trees.proofs.Lists.{entries_listed}
use Rattle.chart_trees.proofs.around.entries_inside.Goals as goal

pub returns : goal.returns
returns c =
    entries_listed c.entries_of.result (map item_view c.args.items.now.items) (subst (λ (xs : List GraphItem). IfOk c.entries_of.result (λ n. n ≡ entries_of (map item_view xs))) c.as_slice.ensures.value c.entries_of.ensures)
