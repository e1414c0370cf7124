-- The programs of a model send at the priorities that have words, 1 to 5, alone; so an actor with tables
-- that are compiled from a chart of the model sends nothing at priority 0, which is the system's.
use Rattle.std.specs.Prelude.{◌≡◌, ℕ, nat_le, ◌&&◌, Bool, true, List, Option, Some, slice_get}
use Rattle.room_kinds.specs.declared.command.Command.{Command}
use Rattle.room_kinds.specs.declared.command.Command.TheVariants as commands
use Rattle.room_ast.specs.Trees.{ModelTree}
use Rattle.chart_model.specs.Chart.{Chart}
use Rattle.chart_run.specs.declared.chart_tables.tables.Tables.{Tables}
use Rattle.chart_behaviour.specs.Asked.{is_open}
use Rattle.chart_behaviour.specs.chart_asks.Asking.{TablesAsk}
use Rattle.chart_reader.specs.model_charts.Charts.{HasCharts}
use Rattle.chart_compile.specs.chart_parts.Compiled.{Compiles}
use Rattle.chart_behaviour.specs.sends.Sends.{is_ranked}

-- whether a command sends at a priority that has a word, 1 to 5, if it sends
abbrev pub is_worded : Command → Bool
is_worded (commands.Send p k signal payload prio) = nat_le 1 prio.0 && nat_le prio.0 5
is_worded commands.Defer = true
is_worded commands.Recall = true
is_worded commands.RecallAll = true
is_worded (commands.Frame c) = true
is_worded (commands.Name c) = true

-- over every model, each of its charts and tables that are compiled from it
abbrev pub ChartsSendWorded : Type 0
ChartsSendWorded =
    (m : ModelTree) (charts : List (Option Chart)) → HasCharts m charts
    → (c : ℕ) (chart : Chart) (v : Tables) → slice_get charts c ≡ Some (Some chart) → Compiles v chart → TablesAsk is_worded v

-- the same of priority 0
abbrev pub ChartsAreOpen : Type 0
ChartsAreOpen =
    (m : ModelTree) (charts : List (Option Chart)) → HasCharts m charts
    → (c : ℕ) (chart : Chart) (v : Tables) → slice_get charts c ≡ Some (Some chart) → Compiles v chart → TablesAsk is_open v

-- and of the six priorities that there are
abbrev pub ChartsAreRanked : Type 0
ChartsAreRanked =
    (m : ModelTree) (charts : List (Option Chart)) → HasCharts m charts
    → (c : ℕ) (chart : Chart) (v : Tables) → slice_get charts c ≡ Some (Some chart) → Compiles v chart → TablesAsk is_ranked v
