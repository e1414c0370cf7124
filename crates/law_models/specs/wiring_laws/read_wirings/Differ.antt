-- Charts in which the states of each graph have different names.
use Rattle.std.specs.Prelude.{All, Option, Some, None}
use Rattle.room_ast.specs.ChartTree.{GraphItemTree, AState, AChoice, APoint, ATransition, ARefinement, StateTree, StateOf, BodyTree, no_body, body, SubgraphTree, no_subgraph, subgraph, GraphItems, no_items, item}
use Rattle.room_ast.specs.Trees.{ModelTree, ActorTree}
use Rattle.name_tables.specs.name_numbers.Names.{AreDistinct}
use Rattle.room_ast.specs.model_parts.Charts.{chart_of}
use Rattle.room_ast.specs.model_parts.Classes.{actors}
use Rattle.law_models.specs.wiring_laws.state_names.States.{names_here}

-- In each graph inside the states of a graph the states have different names.
abbrev mutual
  pub ItemDiffers : GraphItemTree → Type 0
  ItemDiffers (AState s) = StateDiffers s
  ItemDiffers (AChoice c) = Unit {0}
  ItemDiffers (APoint p) = Unit {0}
  ItemDiffers (ATransition t) = Unit {0}
  ItemDiffers (ARefinement path change) = Unit {0}

  pub StateDiffers : StateTree → Type 0
  StateDiffers (StateOf name b) = BodyDiffers b

  pub BodyDiffers : BodyTree → Type 0
  BodyDiffers no_body = Unit {0}
  BodyDiffers (body entry exit sub) = SubgraphDiffers sub

  pub SubgraphDiffers : SubgraphTree → Type 0
  SubgraphDiffers no_subgraph = Unit {0}
  SubgraphDiffers (subgraph items) = AreDistinct (names_here items) × ItemsDiffer items

  pub ItemsDiffer : GraphItems → Type 0
  ItemsDiffer no_items = Unit {0}
  ItemsDiffer (item i is) = ItemDiffers i × ItemsDiffer is

-- The states of each graph of a chart have different names.
abbrev pub ChartDiffers : Option GraphItems → Type 0
ChartDiffers None = Unit {0}
ChartDiffers (Some items) = AreDistinct (names_here items) × ItemsDiffer items

-- It is so in each actor class.
pub record StatesDiffer (m : ModelTree) : Type 0 where
  pub charts : All (λ (a : ActorTree). ChartDiffers (chart_of a)) (actors m)
