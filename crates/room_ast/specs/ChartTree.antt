-- A graph without where it lies in memory.
use Rattle.std.specs.Prelude.{ℕ, List, [], ◌∷◌, map, Option, Some, None, option_map}
use Rattle.std.specs.Global.{Box, Vec}
use Rattle.room_ast.specs.declared.chart.GraphItem.{GraphItem}
use Rattle.room_ast.specs.declared.chart.Change.TheFolds.{fold-GraphItem, fold-State, fold-StateBody, fold-Refinement}
use Rattle.room_ast.specs.declared.chart.Change.TheOpen.{GraphItem-F, State-F, StateBody-F, Refinement-F, Change-F}
use Rattle.room_ast.specs.declared.chart.State.{State}
use Rattle.room_ast.specs.declared.chart.StateBody.{StateBody}
use Rattle.room_ast.specs.declared.chart.Refinement.{Refinement}
use Rattle.room_ast.specs.declared.chart.ChoicePoint.{ChoicePoint}
use Rattle.room_ast.specs.declared.chart.Point.{Point}
use Rattle.room_ast.specs.declared.chart.Transition.{Transition}
use Rattle.room_ast.specs.declared.chart.Code.{Code}
use Rattle.room_ast.specs.declared.model.Dotted.{Dotted}

mutual
  pub data GraphItemTree : Type 0 where
    AState : StateTree → GraphItemTree
    AChoice : ChoicePoint → GraphItemTree
    APoint : Point → GraphItemTree
    ATransition : Transition → GraphItemTree
    ARefinement : Dotted → ChangeTree → GraphItemTree

  -- a name, and a body
  pub data StateTree : Type 0 where
    StateOf : List ℕ → BodyTree → StateTree

  -- entry code, exit code and subgraph
  pub data BodyTree : Type 0 where
    no_body : BodyTree
    body : Option Code → Option Code → SubgraphTree → BodyTree

  -- what a refinement adds: to a state entry code, exit code and subgraph, to a transition action code
  pub data ChangeTree : Type 0 where
    OfState : Option Code → Option Code → SubgraphTree → ChangeTree
    OfTransition : Code → ChangeTree

  pub data SubgraphTree : Type 0 where
    no_subgraph : SubgraphTree
    subgraph : GraphItems → SubgraphTree

  pub data GraphItems : Type 0 where
    no_items : GraphItems
    item : GraphItemTree → GraphItems → GraphItems

-- what stands in the braces of a state's body
pub record BodyParts : Type 0 where
  pub entry : Option Code
  pub exit : Option Code
  pub subgraph : SubgraphTree

abbrev pub items_of : List GraphItemTree → GraphItems
items_of [] = no_items
items_of (i ∷ is) = item i (items_of is)

abbrev pub subgraph_of : Option (Vec GraphItemTree) → SubgraphTree
subgraph_of None = no_subgraph
subgraph_of (Some v) = subgraph (items_of v.items)

abbrev pub body_of : Option BodyParts → BodyTree
body_of None = no_body
body_of (Some b) = body b.entry b.exit b.subgraph

-- a body that stands in a box
abbrev pub boxed_body : Option (Box BodyParts) → BodyTree
boxed_body None = no_body
boxed_body (Some b) = body b.value.entry b.value.exit b.value.subgraph

abbrev pub item_step : GraphItem-F ChangeTree GraphItemTree GraphItemTree StateTree BodyParts → GraphItemTree
item_step (GraphItem-F.GraphItem::State s) = AState s
item_step (GraphItem-F.Choice c) = AChoice c
item_step (GraphItem-F.Point p) = APoint p
item_step (GraphItem-F.GraphItem::Transition t) = ATransition t.value
item_step (GraphItem-F.Refinement r) = r.value

abbrev pub state_step : State-F ChangeTree GraphItemTree GraphItemTree StateTree BodyParts → StateTree
state_step s = StateOf s.name (boxed_body s.body)

abbrev pub body_step : StateBody-F ChangeTree GraphItemTree GraphItemTree StateTree BodyParts → BodyParts
body_step b = record { entry = b.entry; exit = b.exit; subgraph = subgraph_of b.subgraph }

abbrev pub refinement_step : Refinement-F ChangeTree GraphItemTree GraphItemTree StateTree BodyParts → GraphItemTree
refinement_step r = ARefinement r.path r.change

abbrev pub change_step : Change-F ChangeTree GraphItemTree GraphItemTree StateTree BodyParts → ChangeTree
change_step (Change-F.Change::State b) = OfState b.entry b.exit b.subgraph
change_step (Change-F.Change::Transition c) = OfTransition c

abbrev pub item_view : GraphItem → GraphItemTree
item_view = fold-GraphItem ChangeTree GraphItemTree GraphItemTree StateTree BodyParts change_step item_step refinement_step state_step body_step

abbrev pub state_view : State → StateTree
state_view = fold-State ChangeTree GraphItemTree GraphItemTree StateTree BodyParts change_step item_step refinement_step state_step body_step

abbrev pub body_view : StateBody → BodyParts
body_view = fold-StateBody ChangeTree GraphItemTree GraphItemTree StateTree BodyParts change_step item_step refinement_step state_step body_step

-- a state's body, which may be missing
abbrev pub body_if_view : Option (Box StateBody) → BodyTree
body_if_view o = body_of (option_map (λ b. body_view b.value) o)

abbrev pub refinement_view : Refinement → GraphItemTree
refinement_view = fold-Refinement ChangeTree GraphItemTree GraphItemTree StateTree BodyParts change_step item_step refinement_step state_step body_step

abbrev pub item_views : List GraphItem → List GraphItemTree
item_views is = map item_view is

abbrev pub graph_view : List GraphItem → GraphItems
graph_view is = items_of (item_views is)
