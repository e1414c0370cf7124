-- What reading class after class keeps.
use Rattle.std.specs.Prelude.{◌≡◌, ℕ, List, ◌++◌, map, Option, Some, None, Result, Ok, Err, option_map, slice_get}
use Rattle.room_ast.specs.declared.scope.Scope.{Scope}
use Rattle.room_ast.specs.ChartTree.{GraphItems}
use Rattle.room_ast.specs.Trees.{ModelTree, ActorTree}
use Rattle.room_ast.specs.model_parts.Classes.{actors}
use Rattle.chart_trees.specs.declared.chart_graphs.Chart.{Chart as CodeChart}
use Rattle.chart_trees.specs.chart_graphs.Views.{chart_view}
use Rattle.chart_model.specs.Chart.{Name, Chart}
use Rattle.chart_reader.specs.declared.fault.ChartFault.{ChartFault}
use Rattle.chart_reader.specs.declared.fault.ReadFault.{ReadFault}
use Rattle.chart_reader.specs.declared.fault.ReadFault.TheVariants as read_faults
use Rattle.chart_reader.specs.declared.model_charts.fault.ChartsFault.{ChartsFault}
use Rattle.chart_reader.specs.declared.model_charts.fault.ChartsFault.TheVariants as faults
use Rattle.chart_reader.specs.model_charts.Written.{Written, written, names_after}
use Rattle.chart_reader.specs.model_charts.Charts.{HasFault, NoneIsFaulty, chart_in}

-- The chart of a class that was read, which has no fault, and the service names after it; or the fault, unless memory ran out.
abbrev pub ReadsClass : Scope → List Name → List Name → Option GraphItems → Result (Option CodeChart) ReadFault → Type 0
ReadsClass scope old new machine (Ok c) =
    HasFault (option_map (written scope old) machine) None
    × (option_map chart_view c ≡ chart_in (option_map (written scope old) machine))
    × (names_after scope old machine ≡ new)
ReadsClass scope old new machine (Err (read_faults.Chart fault)) = HasFault (option_map (written scope old) machine) (Some fault)
ReadsClass scope old new machine (Err read_faults.Memory) = Unit {0}

-- What is told of a fault is the class at this place and the fault, unless memory ran out.
abbrev pub TellsClass : ModelTree → ℕ → ChartFault → ChartsFault → Type 0
TellsClass m place fault (faults.Chart class f) = (option_map (λ (a : ActorTree). a.name) (slice_get (actors m) place) ≡ Some class) × (f ≡ fault)
TellsClass m place fault faults.Memory = Unit {0}

-- These are the charts of a front of all classes, none of which has a fault, and this is what the texts of the others write.
pub record IsRead (all rest : List (Option Written)) (charts : List (Option Chart)) : Type 0 where
  pub done : List (Option Written)
  pub split : all ≡ done ++ rest
  pub faultless : NoneIsFaulty done
  pub charts_are : charts ≡ map chart_in done
