-- What is seen of an actor between two messages, beside the number of its state.
use Rattle.std.specs.Prelude.{ℤ, List, [], Some, None}
use Rattle.chart_behaviour.specs.ModelCharts.{Actor}

-- the numbers of its attributes, in order of declaration; none where its class has no chart
abbrev pub attributes_of : Actor → List ℤ
attributes_of None = []
attributes_of (Some actor) = actor.vars
