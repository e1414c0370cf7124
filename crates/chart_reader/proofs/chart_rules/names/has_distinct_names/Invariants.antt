use Rattle.std.proofs.Common.{◌≡◌, ◌++◌, map, take}
use Rattle.name_tables.specs.name_numbers.Names.{names_of}
use Rattle.chart_trees.specs.chart_graphs.Views.{state_view, point_view}
use Rattle.chart_reader.proofs.chart_rules.names.has_distinct_names.Given as goal

abbrev pub invariant-loop-state : goal.invariant-loop-state
invariant-loop-state l = names_of l.names.items ≡ map (λ s. s.name) (map state_view (take l.state-index l.graph.states.items))

abbrev pub invariant-loop-point : goal.invariant-loop-point
invariant-loop-point l = names_of l.names.items ≡ map (λ s. s.name) (map state_view l.graph.states.items) ++ map (λ p. p.name) (map point_view (take l.point-index l.graph.points.items))
