use Rattle.std.proofs.Common.{◌≡◌, ◌+◌, ◌≤◌, min, drop}
use Rattle.room_ast.specs.ChartTree.{graph_view}
use Rattle.room_ast.specs.model_parts.Charts.{states_in}
use Rattle.check_mappings.specs.count_rules.Counting.{most_counted}
use Rattle.check_mappings.proofs.count_rules.states.+states.Given as goal

-- what is counted, and what is left to count
abbrev pub invariant-states_in-loop-item : goal.invariant-states_in-loop-item
invariant-states_in-loop-item l =
    (l.count ≤ 60001) × (min most_counted (l.count + states_in (graph_view (drop l.item-index l.items.items))) ≡ min most_counted (states_in (graph_view l.items.items)))
