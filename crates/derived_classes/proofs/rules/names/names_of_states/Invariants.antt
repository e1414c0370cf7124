use Rattle.std.proofs.Common.{◌≡◌, map, take}
use Rattle.name_tables.specs.name_numbers.Names.{names_of}
use Rattle.room_ast.specs.ChartTree.{state_view}
use Rattle.derived_classes.specs.Searching.{name_of}
use Rattle.derived_classes.proofs.rules.names.names_of_states.Given as goal

abbrev pub invariant-loop-state : goal.invariant-loop-state
invariant-loop-state l = names_of l.names.items ≡ map name_of (map (λ s. state_view s.now) (take l.state-index l.states))
