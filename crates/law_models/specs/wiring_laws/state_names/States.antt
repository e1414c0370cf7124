-- Charts whose states are called by identifiers, in each graph by different ones.
use Rattle.std.specs.Prelude.{ℕ, List, [], ◌∷◌, All, Option, Some, None}
use Rattle.room_ast.specs.ChartTree.{GraphItemTree, AState, AChoice, APoint, ATransition, ARefinement, StateTree, StateOf, BodyTree, no_body, body, SubgraphTree, no_subgraph, subgraph, GraphItems, no_items, item}
use Rattle.room_ast.specs.Trees.{ModelTree, ActorTree}
use Rattle.room_wiring.specs.WellNamed.{IsIdent, IsStateLabel, NamesDiffer}
use Rattle.room_wiring.specs.declared.names.ClassNames.{ClassNames}
use Rattle.name_tables.specs.name_numbers.Names.{AreDistinct}
use Rattle.room_ast.specs.model_parts.Charts.{chart_of}
use Rattle.room_ast.specs.model_parts.Classes.{actors}

-- what an item adds to the names of the states of its graph
abbrev pub name_of_item : GraphItemTree → List (List ℕ) → List (List ℕ)
name_of_item (AState (StateOf name b)) names = name ∷ names
name_of_item (AChoice c) names = names
name_of_item (APoint p) names = names
name_of_item (ATransition t) names = names
name_of_item (ARefinement path change) names = names

-- the names of the states of a graph, without those inside its states
abbrev pub names_here : GraphItems → List (List ℕ)
names_here no_items = []
names_here (item i is) = name_of_item i (names_here is)

-- The states of a graph are called by identifiers, as are those inside them; in each graph inside them by different ones.
abbrev mutual
  pub ItemIsNamed : GraphItemTree → Type 0
  ItemIsNamed (AState s) = StateIsNamed s
  ItemIsNamed (AChoice c) = Unit {0}
  ItemIsNamed (APoint p) = Unit {0}
  ItemIsNamed (ATransition t) = Unit {0}
  ItemIsNamed (ARefinement path change) = Unit {0}

  pub StateIsNamed : StateTree → Type 0
  StateIsNamed (StateOf name b) = IsIdent name × BodyIsNamed b

  pub BodyIsNamed : BodyTree → Type 0
  BodyIsNamed no_body = Unit {0}
  BodyIsNamed (body entry exit sub) = SubgraphIsNamed sub

  pub SubgraphIsNamed : SubgraphTree → Type 0
  SubgraphIsNamed no_subgraph = Unit {0}
  SubgraphIsNamed (subgraph items) = AreDistinct (names_here items) × ItemsAreNamed items

  pub ItemsAreNamed : GraphItems → Type 0
  ItemsAreNamed no_items = Unit {0}
  ItemsAreNamed (item i is) = ItemIsNamed i × ItemsAreNamed is

-- The states of a chart are called by identifiers, in each graph by different ones.
abbrev pub ChartIsNamed : Option GraphItems → Type 0
ChartIsNamed None = Unit {0}
ChartIsNamed (Some items) = AreDistinct (names_here items) × ItemsAreNamed items

-- It is so in each actor class.
pub record NamesStates (m : ModelTree) : Type 0 where
  pub charts : All (λ (a : ActorTree). ChartIsNamed (chart_of a)) (actors m)

-- The states of a class have different labels, made of names.
pub record HasWellNamedStates (c : ClassNames) : Type 0 where
  pub labels : All IsStateLabel c.states
  pub differ : NamesDiffer (λ (x : List ℕ). x) c.states
