-- The charts of a model.
use Rattle.std.specs.Prelude.{Option, Some, None}
use Rattle.chart_model.specs.Chart.{Chart}
use Rattle.chart_reader.specs.Whole.{IsWhole}

-- The chart of a class, if it has one, is valid, its graphs are those of its states, of which there are few.
abbrev pub IsValidIfAny : Option Chart → Type 0
IsValidIfAny None = Unit {0}
IsValidIfAny (Some c) = IsWhole c
