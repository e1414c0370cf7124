use Rattle.std.proofs.Common.{◌≡◌, map, take}
use Rattle.name_tables.specs.name_numbers.Names.{names_of}
use Rattle.chart_trees.specs.chart_graphs.Views.{state_view}
use Rattle.chart_reader.specs.chart_rules.Index.{name_of_state}
use Rattle.chart_reader.proofs.chart_rules.names.states_of.Given as goal

abbrev pub invariant-loop-state : goal.invariant-loop-state
invariant-loop-state l = names_of l.names.items ≡ map name_of_state (map state_view (take l.state-index l.graph.states.items))
