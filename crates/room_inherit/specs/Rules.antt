-- The rules on classes that extend others.
use Rattle.std.specs.Prelude.{ℕ, ◌&&◌, Bool, true, false, not, nat_le, List, [], ◌∷◌, length, map, Option, Some, None, is_some, if◌then◌else◌}
use Rattle.std.specs.List.{list_all}
use Rattle.std.specs.Option.{option_map_or, option_to_list}
use Rattle.number_graphs.specs.class_containment.Containment.{contains_itself}
use Rattle.room_ast.specs.ChartTree.{GraphItemTree, AState, AChoice, APoint, ATransition, ARefinement, ChangeTree, OfState, OfTransition, StateTree, StateOf, BodyTree, no_body, body, SubgraphTree, no_subgraph, subgraph, GraphItems, no_items, item}
use Rattle.room_ast.specs.Tokens.{model_tokens}
use Rattle.room_ast.specs.Trees.{ModelTree, ClassTree, ActorTree}
use Rattle.room_ast.specs.model_parts.Charts.{chart_of}
use Rattle.room_ast.specs.model_parts.Classes.{as_actor}
use Rattle.room_inherit.specs.Flat.{number_above, base_in, flat_actor, flat}
use Rattle.derived_classes.specs.Derived.{refines_known, refines_once}

-- Whether a class, if it is an actor class, passes.
abbrev pub of_actor : (ActorTree → Bool) → ClassTree → Bool
of_actor p c = option_map_or p (as_actor c) true

-- ---- bases

-- Whether a class has no base, or one that names an actor class.
abbrev pub has_known_base : List ClassTree → ActorTree → Bool
has_known_base classes a = if is_some a.base then is_some (base_in classes a) else true

-- Rule 26. Every base names an actor class.
unfoldable pub bases_are_known : ModelTree → Bool
bases_are_known m = list_all (of_actor (has_known_base m.classes)) m.classes

-- The number of the class that a class extends, as a list; none where it extends none.
abbrev pub extended : List ClassTree → ClassTree → List ℕ
extended classes c = option_to_list (number_above classes c)

-- Rule 27. No class extends itself through bases.
unfoldable pub none_extends_itself : ModelTree → Bool
none_extends_itself m = not (contains_itself (map (extended m.classes) m.classes))

-- ---- where refinements stand

-- Whether no refinement stands in a graph, nor in the graphs of its states.
abbrev mutual
  pub item_is_plain : GraphItemTree → Bool
  item_is_plain (AState s) = state_is_plain s
  item_is_plain (AChoice c) = true
  item_is_plain (APoint p) = true
  item_is_plain (ATransition t) = true
  item_is_plain (ARefinement path change) = false

  pub state_is_plain : StateTree → Bool
  state_is_plain (StateOf name b) = body_is_plain b

  pub body_is_plain : BodyTree → Bool
  body_is_plain no_body = true
  body_is_plain (body entry exit sub) = subgraph_is_plain sub

  pub subgraph_is_plain : SubgraphTree → Bool
  subgraph_is_plain no_subgraph = true
  subgraph_is_plain (subgraph is) = is_plain is

  pub is_plain : GraphItems → Bool
  is_plain no_items = true
  is_plain (item i is) = item_is_plain i && is_plain is

-- Whether no refinement stands inside an item of a top graph; it may be one itself.
abbrev pub inside_is_plain : GraphItemTree → Bool
inside_is_plain (AState s) = state_is_plain s
inside_is_plain (AChoice c) = true
inside_is_plain (APoint p) = true
inside_is_plain (ATransition t) = true
inside_is_plain (ARefinement path (OfState entry exit sub)) = subgraph_is_plain sub
inside_is_plain (ARefinement path (OfTransition c)) = true

-- Whether refinements stand in a top graph alone.
abbrev pub is_plain_inside : GraphItems → Bool
is_plain_inside no_items = true
is_plain_inside (item i is) = inside_is_plain i && is_plain_inside is

abbrev pub refines_rightly : ActorTree → Bool
refines_rightly a = option_map_or (if is_some a.base then is_plain_inside else is_plain) (chart_of a) true

-- Rule 28. A refinement stands only in the top graph of a class with a base.
unfoldable pub refinements_stand_right : ModelTree → Bool
refinements_stand_right m = list_all (of_actor refines_rightly) m.classes

-- ---- what refinements name

-- Whether each refinement of a class names what the flat chart of its base has.
abbrev pub names_known : List ClassTree → ActorTree → Bool
names_known classes a = option_map_or (λ b. refines_known (flat_actor classes b) a) (base_in classes a) true

-- Rule 29. A RefinedState names a path of states in the base's flat chart. A RefinedTransition names such a path, which may be empty, and then a name that exactly one transition of that graph has.
unfoldable pub refinements_are_known : ModelTree → Bool
refinements_are_known m = list_all (of_actor (names_known m.classes)) m.classes

-- Rule 30. No class refines one state or one transition twice.
unfoldable pub refinements_differ : ModelTree → Bool
refinements_differ m = list_all (of_actor refines_once) m.classes

abbrev pub tokens_are_few : ModelTree → Bool
tokens_are_few m = nat_le (length (model_tokens m)) 2000000

-- Rule 31. The flattened model has at most 2,000,000 tokens.
unfoldable pub flat_is_small : ModelTree → Bool
flat_is_small m = tokens_are_few (flat m)

-- The lowest rule that a model breaks, if it breaks one.
abbrev pub lowest_broken : ModelTree → Option ℕ
lowest_broken m =
    if bases_are_known m then
    if none_extends_itself m then
    if refinements_stand_right m then
    if refinements_are_known m then
    if refinements_differ m then
    if flat_is_small m then None else Some 31
    else Some 30
    else Some 29
    else Some 28
    else Some 27
    else Some 26

-- Whether no class has a base and no refinement stands anywhere.
abbrev pub class_is_plain : ActorTree → Bool
class_is_plain a = not (is_some a.base) && option_map_or is_plain (chart_of a) true

unfoldable pub extends_nothing : ModelTree → Bool
extends_nothing m = list_all (of_actor class_is_plain) m.classes
