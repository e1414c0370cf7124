-- The transitions of a chart, with the keys of where they begin and where they lead.
use Rattle.std.specs.Prelude.{ℕ, if◌then◌else◌, List, [], ◌∷◌, ◌++◌, map}
use Rattle.name_tables.specs.name_numbers.Names.{is_among}
use Rattle.chart_model.specs.Chart.{Path, Transition, Graph, Chart}
use Rattle.chart_model.specs.Named.{Placed}
use Rattle.chart_trees.specs.chart_graphs.Views.{transition_view}
use Rattle.chart_reader.specs.chart_nodes.Keys.{codes, origin_key, target_key}
use Rattle.chart_reader.specs.declared.chart_nodes.steps.Step.{Step}

-- a transition in its graph, with the key of the place where it begins and that of the node that it leads to
pub record StepTree : Type 0 where
  pub placed : Placed
  pub origin : List ℕ
  pub target : List ℕ

abbrev pub step_of : Path → Transition → StepTree
step_of graph t = record { placed = record { graph = graph; transition = t }; origin = origin_key graph t.source; target = target_key graph t.target }

-- the steps of a graph, in order of declaration
abbrev pub steps_in : Graph → List StepTree
steps_in g = map (step_of g.owner) g.transitions

-- the steps of graphs, behind graphs with these keys; of two graphs under one path the first alone counts
unfoldable pub steps_behind : List (List ℕ) → List Graph → List StepTree
steps_behind seen [] = []
steps_behind seen (g ∷ gs) = if is_among seen (codes g.owner) then steps_behind seen gs else steps_in g ++ steps_behind (seen ++ codes g.owner ∷ []) gs

-- all steps of a chart
abbrev pub steps_of : Chart → List StepTree
steps_of chart = steps_behind [] chart.graphs

-- a step as the code has it
abbrev pub step_view : Step → StepTree
step_view s = record { placed = record { graph = s.graph.now.owner; transition = transition_view s.transition.now }; origin = s.origin.items; target = s.target.items }
