-- That a model has its charts, or one first fault.
use Rattle.std.specs.Prelude.{◌≡◌, List, Option}
use Rattle.room_ast.specs.Trees.{ModelTree}
use Rattle.chart_model.specs.Chart.{Name, Chart}
use Rattle.chart_reader.specs.declared.fault.ChartFault.{ChartFault}
use Rattle.chart_reader.specs.model_charts.Charts.{HasCharts, HasFaultyChart}

-- A model has one list of charts at most, or one first class with a faulty chart, and never both.
pub record AreOne (m : ModelTree) : Type 0 where
  pub charts : (cs ds : List (Option Chart)) → HasCharts m cs → HasCharts m ds → cs ≡ ds
  pub first : (c d : Name) (f g : ChartFault) → HasFaultyChart m c f → HasFaultyChart m d g → (c ≡ d) × (f ≡ g)
  pub not_both : (cs : List (Option Chart)) (c : Name) (f : ChartFault) → HasCharts m cs → HasFaultyChart m c f → ⊥
