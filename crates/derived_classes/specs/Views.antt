-- What the code's refinements stand for.
use Rattle.std.specs.Prelude.{◌≡◌, ℕ, List, [], ◌∷◌, map, Option, Some, None}
use Rattle.std.specs.Borrow.{Bor}
use Rattle.std.specs.Global.{Vec}
use Rattle.room_ast.specs.ChartTree.{GraphItemTree, StateTree, BodyParts, ChangeTree, OfState, SubgraphTree, no_subgraph, subgraph, GraphItems, graph_view, item_step, state_step, body_step, refinement_step, change_step}
use Rattle.room_ast.specs.declared.chart.Change.{Change}
use Rattle.room_ast.specs.declared.chart.Code.{Code}
use Rattle.room_ast.specs.declared.chart.GraphItem.{GraphItem}
use Rattle.room_ast.specs.declared.chart.StateMachine.{StateMachine}
use Rattle.room_ast.specs.declared.chart.Change.TheFolds.{fold-Change}
use Rattle.derived_classes.specs.Grouping.{GroupTree, inside_of, actions_of}
use Rattle.derived_classes.specs.Refining.{Refining, below, added_actions}
use Rattle.derived_classes.specs.Searching.{NamesTree, SearchTree}
use Rattle.derived_classes.specs.declared.refining.grouped.Group.{Group}
use Rattle.derived_classes.specs.declared.refining.grouped.Grouped.{Grouped}
use Rattle.derived_classes.specs.declared.refining.paths.Pending.{Pending}
use Rattle.derived_classes.specs.declared.rules.names.TransitionNames.{TransitionNames}
use Rattle.derived_classes.specs.declared.rules.once.Path.{Path}
use Rattle.derived_classes.specs.declared.rules.search.Search.{Search}

abbrev pub change_view : Change → ChangeTree
change_view = fold-Change ChangeTree GraphItemTree GraphItemTree StateTree BodyParts change_step item_step refinement_step state_step body_step

-- What a refinement of a state adds.
abbrev pub of_state : BodyParts → ChangeTree
of_state b = OfState b.entry b.exit b.subgraph

abbrev pub path_from : Option (Bor (List ℕ)) → List (List ℕ) → List (List ℕ)
path_from None others = []
path_from (Some first) others = first.now ∷ others

abbrev pub refining_view : Pending → Refining
refining_view p = record { path = path_from p.next p.others.now; change = change_view p.change.now }

abbrev pub refining_views : List Pending → List Refining
refining_views ps = map refining_view ps

abbrev pub code_views : List (Bor Code) → List Code
code_views cs = map (λ (c : Bor Code). c.now) cs

abbrev pub group_view : Group → GroupTree
group_view g = record { inside = refining_views g.inside.items; actions = code_views g.actions.items }

abbrev pub group_views : List Group → List GroupTree
group_views gs = map group_view gs

-- What a group adds to transitions, if there is one.
abbrev pub actions_if : Option (Bor Group) → List Code
actions_if None = []
actions_if (Some g) = code_views g.now.actions.items

-- Whether each group has the refinements that begin with its name.
pub record IsGrouped (g : Grouped) : Type 0 where
  pub inside : (name : List ℕ) → inside_of g.names (group_views g.groups.items) name ≡ below name (refining_views g.pending.now)
  pub actions : (name : List ℕ) → actions_of g.names (group_views g.groups.items) name ≡ added_actions name (refining_views g.pending.now)

abbrev pub subgraph_tree : Option (Vec GraphItem) → SubgraphTree
subgraph_tree None = no_subgraph
subgraph_tree (Some v) = subgraph (graph_view v.items)

abbrev pub machine_view : StateMachine → GraphItems
machine_view m = graph_view m.items.items

abbrev pub path_view : Path → List (List ℕ)
path_view p = path_from p.next p.others.now

abbrev pub path_views : List Path → List (List (List ℕ))
path_views ps = map path_view ps

abbrev pub transition_names : TransitionNames → NamesTree
transition_names ts = record { once = ts.once; again = ts.again }

abbrev pub search_view : Search → SearchTree
search_view s = record { graph = graph_view s.graph.now; sought = refining_views s.sought.items }

abbrev pub search_views : List Search → List SearchTree
search_views ss = map search_view ss
