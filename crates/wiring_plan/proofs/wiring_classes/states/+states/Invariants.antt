use Rattle.std.proofs.Common.{◌≡◌, ◌++◌, drop, map}
use Rattle.room_ast.specs.ChartTree.{graph_view}
use Rattle.wiring_plan.specs.wiring_classes.Labels.{label_of}
use Rattle.wiring_plan.specs.wiring_classes.States.{states_of_graph}
use Rattle.wiring_plan.proofs.wiring_classes.states.+states.Given as goal

-- what was added, and what is left to add
abbrev pub invariant-add_graph-loop-item : goal.invariant-add_graph-loop-item
invariant-add_graph-loop-item l =
    l.labels.items ++ map label_of (states_of_graph l.left l.prefix (graph_view (drop l.item-index l.items.items))) ≡ l.fn.labels.items ++ map label_of (states_of_graph l.left l.prefix (graph_view l.items.items))
