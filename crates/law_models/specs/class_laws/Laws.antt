-- The laws of the classes of a model whose charts have no fault.
use Rattle.std.specs.Prelude.{◌≡◌, ℕ, Some, None, List, [], Option, map, slice_get}
use Rattle.room_ast.specs.Trees.{ModelTree}
use Rattle.room_wiring.specs.WellNamed.{IsWellNamedClass}
use Rattle.room_wiring.specs.declared.names.ClassNames.{ClassNames}
use Rattle.wiring_plan.specs.wiring_classes.Classes.{classes_of}
use Rattle.chart_model.specs.Chart.{Chart}
use Rattle.chart_model.specs.States.{states_of, state_label}
use Rattle.chart_run.specs.declared.chart_tables.tables.Tables.{Tables}
use Rattle.chart_reader.specs.model_charts.Charts.{HasCharts}
use Rattle.chart_compile.specs.chart_parts.Compiled.{Compiles}
use Rattle.law_models.specs.class_laws.Programs.{ChartNames, TablesName}

-- the labels of the states of a class are those of its chart, number by number; none where it has no chart
abbrev pub HasLabelsOf : ClassNames → Option Chart → Type 0
HasLabelsOf c None = c.states ≡ []
HasLabelsOf c (Some chart) = c.states ≡ map state_label (states_of chart)

-- over every model whose charts have no fault, and each class with a chart whose names are identifiers and differ
abbrev pub StatesAreLabelled : Type 0
StatesAreLabelled =
    (m : ModelTree) (charts : List (Option Chart)) → HasCharts m charts
    → (k : ℕ) (c : ClassNames) (chart : Option Chart) → slice_get (classes_of m) k ≡ Some c → slice_get charts k ≡ Some chart
    → IsWellNamedClass c → HasLabelsOf c chart

-- over every model whose charts have no fault: what a class's chart runs names what the class has
abbrev pub ChartsNameTheirClass : Type 0
ChartsNameTheirClass =
    (m : ModelTree) (charts : List (Option Chart)) → HasCharts m charts
    → (k : ℕ) (c : ClassNames) (chart : Chart) → slice_get (classes_of m) k ≡ Some c → slice_get charts k ≡ Some (Some chart) → ChartNames c chart

-- and so do tables that are compiled from it
abbrev pub TablesNameTheirClass : Type 0
TablesNameTheirClass =
    (m : ModelTree) (charts : List (Option Chart)) → HasCharts m charts
    → (k : ℕ) (c : ClassNames) (chart : Chart) (v : Tables) → slice_get (classes_of m) k ≡ Some c → slice_get charts k ≡ Some (Some chart)
    → Compiles v chart → TablesName c v
