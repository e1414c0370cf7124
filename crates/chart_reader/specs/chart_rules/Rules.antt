-- The rules of charts as tests, in the order of their numbers.
use Rattle.std.specs.Prelude.{◌==◌, ◌&&◌, Bool, [], nat_le}
use Rattle.std.specs.List.{list_all}
use Rattle.name_tables.specs.distinct_names.Distinct.{is_distinct}
use Rattle.chart_model.specs.Chart.{Transition, Graph, Chart}
use Rattle.chart_model.specs.Valid.{is_shallow, names_in, is_right_transition, goes_on_once, initials_at, begins_inside, has_default}

-- 1: states nest at most 16 deep
unfoldable pub nests_within : Chart → Bool
nests_within chart = list_all is_shallow chart.graphs

-- 2: the names of a graph's states and points are distinct, and its transitions and points are as the rule wants them
abbrev pub graph_has_right_names : Chart → Graph → Bool
graph_has_right_names chart g = is_distinct (names_in g) && (list_all (is_right_transition chart g) g.transitions && list_all (goes_on_once chart g.owner) g.points)

unfoldable pub has_right_names : Chart → Bool
has_right_names chart = list_all (graph_has_right_names chart) chart.graphs

-- 3: no graph has two initial transitions
abbrev pub begins_once_at_most : Chart → Graph → Bool
begins_once_at_most chart g = nat_le (initials_at chart g.owner) 1

unfoldable pub has_one_initial_at_most : Chart → Bool
has_one_initial_at_most chart = list_all (begins_once_at_most chart) chart.graphs

-- 4: the top graph has one, and so has the graph of each state that is entered by its name or by a transition point
abbrev pub graph_begins_inside : Chart → Graph → Bool
graph_begins_inside chart g = list_all (λ (t : Transition). begins_inside chart g t.target) g.transitions

unfoldable pub has_initials : Chart → Bool
has_initials chart = (initials_at chart [] == 1) && list_all (graph_begins_inside chart) chart.graphs

-- 5: each choice point has one branch without a condition
abbrev pub graph_has_defaults : Chart → Graph → Bool
graph_has_defaults chart g = list_all (has_default chart g) g.choices

unfoldable pub has_defaults : Chart → Bool
has_defaults chart = list_all (graph_has_defaults chart) chart.graphs
