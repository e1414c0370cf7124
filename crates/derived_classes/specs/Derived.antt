-- An actor class over its base: the class that comes of both, and the rules on what it refines.
use Rattle.std.specs.Prelude.{ℕ, ◌&&◌, Bool, true, not, List, [], ◌∷◌, ◌++◌, Option, Some, None}
use Rattle.std.specs.List.{list_all, list_any, filter_map}
use Rattle.std.specs.Option.{option_map_or}
use Rattle.room_ast.specs.ChartTree.{ChangeTree, OfState, OfTransition, GraphItems, no_items}
use Rattle.room_ast.specs.Found.{same_path}
use Rattle.room_ast.specs.Trees.{ActorTree, BehaviorTree}
use Rattle.room_ast.specs.model_parts.Charts.{chart_of}
use Rattle.derived_classes.specs.Refining.{Refining, refinements, other_items, followed_by, refined, is_named}

-- ---- a class over its base, which is flat

-- Items, and then others, where either may be missing.
abbrev pub joined_items : {A : Type 0} → Option (List A) → Option (List A) → Option (List A)
joined_items None ys = ys
joined_items (Some xs) None = Some xs
joined_items (Some xs) (Some ys) = Some (xs ++ ys)

-- The graph of the base with the refinements of a class's top graph, and then the other items of that. A class without a state machine adds nothing; where neither has one there is none.
abbrev pub derived_machine : Option GraphItems → Option GraphItems → Option GraphItems
derived_machine None None = None
derived_machine None (Some own) = Some (other_items own)
derived_machine (Some base) None = Some base
derived_machine (Some base) (Some own) = Some (followed_by (refined (refinements own) base) (other_items own))

abbrev pub derived_behavior : Option BehaviorTree → Option BehaviorTree → Option BehaviorTree
derived_behavior None None = None
derived_behavior None (Some own) = Some (record { machine = derived_machine None own.machine })
derived_behavior (Some base) None = Some base
derived_behavior (Some base) (Some own) = Some (record { machine = derived_machine base.machine own.machine })

-- The flat class of a class whose base is this flat class.
abbrev pub derived : ActorTree → ActorTree → ActorTree
derived base own = record {
  event_driven = own.event_driven;
  name = own.name;
  base = None;
  interface = joined_items base.interface own.interface;
  structure = joined_items base.structure own.structure;
  behavior = derived_behavior base.behavior own.behavior;
}

-- ---- what a class refines

-- The refinements of a class's top graph.
abbrev pub refinements_of : ActorTree → List Refining
refinements_of a = option_map_or refinements (chart_of a) []

-- The graph of a class; it is empty where the class has no state machine.
abbrev pub graph_of : ActorTree → GraphItems
graph_of a = option_map_or (λ g. g) (chart_of a) no_items

-- Whether each refinement of a class names what this chart has.
abbrev pub chart_is_known : GraphItems → ActorTree → Bool
chart_is_known chart a = list_all (λ (r : Refining). is_named chart r.path r.change) (refinements_of a)

-- Whether each refinement of a class names what the chart of this flat base has.
abbrev pub refines_known : ActorTree → ActorTree → Bool
refines_known base a = chart_is_known (graph_of base) a

abbrev pub state_path : List (List ℕ) → ChangeTree → Option (List (List ℕ))
state_path path (OfState entry exit sub) = Some path
state_path path (OfTransition c) = None

abbrev pub transition_path : List (List ℕ) → ChangeTree → Option (List (List ℕ))
transition_path path (OfState entry exit sub) = None
transition_path path (OfTransition c) = Some path

-- Whether no two of these paths are the same, as they are written.
abbrev pub paths_differ : List (List (List ℕ)) → Bool
paths_differ [] = true
paths_differ (path ∷ paths) = not (list_any (same_path path) paths) && paths_differ paths

-- Whether no two of these refinements are of one state or of one transition.
unfoldable pub once_of : List Refining → Bool
once_of rs = paths_differ (filter_map (λ (r : Refining). state_path r.path r.change) rs) && paths_differ (filter_map (λ (r : Refining). transition_path r.path r.change) rs)

abbrev pub refines_once : ActorTree → Bool
refines_once a = once_of (refinements_of a)

-- ---- the chart of a class

-- The chart of a class over that of its base.
abbrev pub chart_over : ActorTree → Option GraphItems → GraphItems
chart_over own None = graph_of own
chart_over own (Some chart) = followed_by (refined (refinements_of own) chart) (other_items (graph_of own))
