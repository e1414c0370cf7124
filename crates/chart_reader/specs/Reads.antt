-- What reading a text answers.
use Rattle.std.specs.Prelude.{◌≡◌, ℕ, Bool, true, false, List, Option, Some, None, Result, Ok, Err, is_some}
use Rattle.room_ast.specs.declared.scope.Scope.{Scope}
use Rattle.room_ast.specs.ChartTree.{GraphItems}
use Rattle.chart_model.specs.Chart.{Chart}
use Rattle.chart_model.specs.Named.{Node}
use Rattle.chart_model.specs.Valid.{LeadsTo}
use Rattle.chart_trees.specs.declared.chart_graphs.Chart.{Chart as CodeChart}
use Rattle.chart_trees.specs.chart_graphs.Views.{chart_view}
use Rattle.chart_trees.specs.Reading.{chart_of, reading}
use Rattle.chart_reader.specs.declared.fault.ChartFault.{ChartFault}
use Rattle.chart_reader.specs.declared.fault.ChartFault.TheVariants as faults
use Rattle.chart_reader.specs.declared.fault.ReadFault.{ReadFault}
use Rattle.chart_reader.specs.declared.fault.ReadFault.TheVariants as read_faults
use Rattle.chart_reader.specs.Faults.{names_fault}

-- no node leads to itself
abbrev pub NoCircle : Chart → Type 0
NoCircle chart = (n : Node) → LeadsTo chart n n → ⊥

-- some node does
abbrev pub ACircle : Chart → Type 0
ACircle chart = (n : Node) × LeadsTo chart n n

-- The lowest fault of a chart, where this says whether each event and each code is the class's; none where it has no fault.
abbrev pub IsLowestFault : Chart → Bool → Bool → Option ChartFault → Type 0
IsLowestFault chart events codes None = (names_fault chart ≡ None) × NoCircle chart × (events ≡ true) × (codes ≡ true)
IsLowestFault chart events codes (Some faults.ChoiceCycle) = (names_fault chart ≡ None) × ACircle chart
IsLowestFault chart events codes (Some faults.BadTrigger) = (names_fault chart ≡ None) × NoCircle chart × (events ≡ false)
IsLowestFault chart events codes (Some faults.BadAction) = (names_fault chart ≡ None) × NoCircle chart × (events ≡ true) × (codes ≡ false)
IsLowestFault chart events codes (Some faults.DepthAbove16) = names_fault chart ≡ Some faults.DepthAbove16
IsLowestFault chart events codes (Some faults.BadPoint) = names_fault chart ≡ Some faults.BadPoint
IsLowestFault chart events codes (Some faults.TwoInitials) = names_fault chart ≡ Some faults.TwoInitials
IsLowestFault chart events codes (Some faults.NoInitial) = names_fault chart ≡ Some faults.NoInitial
IsLowestFault chart events codes (Some faults.NoDefault) = names_fault chart ≡ Some faults.NoDefault

-- the lowest fault of what a class's text writes, behind these service names
abbrev pub HasFault : Scope → List (List ℕ) → GraphItems → Option ChartFault → Type 0
HasFault scope names is fault = IsLowestFault (chart_of scope names is) (reading scope names is).events_fit (is_some (reading scope names is).names) fault

-- The chart that the text writes, which has no fault; or its lowest fault, unless memory ran out.
abbrev pub Reads : Scope → List (List ℕ) → GraphItems → Result CodeChart ReadFault → Type 0
Reads scope names is (Ok c) = HasFault scope names is None × (chart_view c ≡ chart_of scope names is)
Reads scope names is (Err (read_faults.Chart fault)) = HasFault scope names is (Some fault)
Reads scope names is (Err read_faults.Memory) = Unit {0}
