-- The charts of a model, and the first one that has a fault.
use Rattle.std.specs.Prelude.{◌≡◌, ℕ, zero, suc, List, [], ◌∷◌, map, Option, Some, None, option_map, slice_get}
use Rattle.room_ast.specs.Trees.{ModelTree, ActorTree}
use Rattle.room_ast.specs.model_parts.Classes.{actors}
use Rattle.chart_model.specs.Chart.{Name, Chart}
use Rattle.chart_reader.specs.Reads.{IsLowestFault}
use Rattle.chart_reader.specs.Whole.{IsWhole}
use Rattle.chart_reader.specs.declared.fault.ChartFault.{ChartFault}
use Rattle.chart_reader.specs.model_charts.Written.{Written, AreWritten}

-- The lowest fault of the chart of a class; none where it has no fault, or where there is no chart.
abbrev pub HasFault : Option Written → Option ChartFault → Type 0
HasFault None fault = fault ≡ None
HasFault (Some w) fault = IsLowestFault w.chart w.events_fit w.codes_fit fault

-- No chart has a fault.
abbrev pub NoneIsFaulty : List (Option Written) → Type 0
NoneIsFaulty [] = Unit {0}
NoneIsFaulty (w ∷ ws) = HasFault w None × NoneIsFaulty ws

-- The chart at this place has this fault and none of a lower number, and the charts before it have none.
abbrev pub IsFirstFaulty : List (Option Written) → ℕ → ChartFault → Type 0
IsFirstFaulty [] i fault = ⊥
IsFirstFaulty (w ∷ ws) zero fault = HasFault w (Some fault)
IsFirstFaulty (w ∷ ws) (suc i) fault = HasFault w None × IsFirstFaulty ws i fault

abbrev pub chart_in : Option Written → Option Chart
chart_in w = option_map (λ (x : Written). x.chart) w

-- Each of the charts is valid, its graphs are those of its states, and of these there are few.
abbrev pub AreValid : List (Option Chart) → Type 0
AreValid [] = Unit {0}
AreValid (None ∷ cs) = AreValid cs
AreValid (Some c ∷ cs) = IsWhole c × AreValid cs

-- These are the charts of a model's actor classes, in order of declaration, and none has a fault. A class without a state machine has none.
pub record HasCharts (m : ModelTree) (charts : List (Option Chart)) : Type 0 where
  pub all : List (Option Written)
  pub written : AreWritten m all
  pub faultless : NoneIsFaulty all
  pub charts_are : charts ≡ map chart_in all

-- The actor class of this name is the first of a model whose chart has a fault, and this is its lowest fault.
pub record HasFaultyChart (m : ModelTree) (class : Name) (fault : ChartFault) : Type 0 where
  pub all : List (Option Written)
  pub written : AreWritten m all
  pub place : ℕ
  pub first : IsFirstFaulty all place fault
  pub named : option_map (λ (a : ActorTree). a.name) (slice_get (actors m) place) ≡ Some class
