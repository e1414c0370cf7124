-- The names of states are identifiers.
use Rattle.std.proofs.Common.{◌≡◌, List, [], ◌∷◌, Option, Some, None}
use Rattle.std.specs.Prelude.{All, option_and_then}
use Rattle.std.specs.List.{filter_map, AllByRecursion}
use Rattle.std.proofs.lemmas.List.Elements.{All-nil, All-cons, All-head, All-tail}
use Rattle.room_ast.specs.ChartTree.{GraphItemTree, AState, AChoice, APoint, ATransition, ARefinement, StateTree, StateOf, BodyTree, no_body, body, SubgraphTree, no_subgraph, subgraph, GraphItems, no_items, item}
use Rattle.room_ast.specs.Tokens.{maybe, word_if, word_code, graph_item, state_tokens, body_tokens, subgraph_tokens, graph_tokens, machine, behavior, interface, structure, extends, actor_class, class_tokens, model_tokens}
use Rattle.room_ast.specs.Trees.{ModelTree, ClassTree, ASystem, ASubsystem, AnActor, AProtocol, AData, ActorTree, BehaviorTree}
use Rattle.room_wiring.specs.WellNamed.{IsWellNamed}
use Rattle.room_wiring.specs.declared.tables.Tables.{Tables}
use Rattle.structure_check.specs.List.{all_rules}
use Rattle.structure_check.specs.Rules.{first_broken}
use Rattle.room_tokens.specs.token_names.Names.{HasNames}
use Rattle.room_ast.specs.model_parts.Charts.{chart_of}
use Rattle.room_ast.specs.model_parts.Classes.{as_actor}
use Rattle.law_models.specs.wiring_laws.state_names.States.{ItemIsNamed, StateIsNamed, BodyIsNamed, SubgraphIsNamed, ItemsAreNamed, ChartIsNamed, NamesStates}
use Rattle.binding_expand.specs.Wirings.{IsWiringOf}
use Rattle.law_models.proofs.wiring_laws.well_named_wiring.Whole.{well_named}
use Rattle.law_models.proofs.wiring_laws.name_tokens.Tokens.{ident_of, has_both}
use Rattle.law_models.proofs.wiring_laws.name_tokens.Models.{classes_read, references_named, parts_named}
use Rattle.law_models.specs.wiring_laws.read_wirings.Differ.{ItemDiffers, StateDiffers, BodyDiffers, SubgraphDiffers, ItemsDiffer, ChartDiffers, StatesDiffer}

mutual
  item_named : (i : GraphItemTree) → HasNames (graph_item i) → ItemDiffers i → ItemIsNamed i
  item_named (AState s) h d = state_named s h d
  item_named (AChoice c) h d = tt
  item_named (APoint p) h d = tt
  item_named (ATransition t) h d = tt
  item_named (ARefinement path change) h d = tt

  state_named : (s : StateTree) → HasNames (state_tokens s) → StateDiffers s → StateIsNamed s
  state_named (StateOf name b) h d = (ident_of name h.0, body_named b h.1 d)

  body_named : (b : BodyTree) → HasNames (body_tokens b) → BodyDiffers b → BodyIsNamed b
  body_named no_body h d = tt
  body_named (body entry exit sub) h d =
      let behind = (has_both (maybe (word_code _) exit) _ (has_both (maybe (word_code _) entry) _ h).1).1 in
      subgraph_named sub (has_both (subgraph_tokens sub) _ behind).0 d

  subgraph_named : (sub : SubgraphTree) → HasNames (subgraph_tokens sub) → SubgraphDiffers sub → SubgraphIsNamed sub
  subgraph_named no_subgraph h d = tt
  subgraph_named (subgraph items) h d = (d.0, items_named items (has_both (graph_tokens items) _ h).0 d.1)

  items_named : (is : GraphItems) → HasNames (graph_tokens is) → ItemsDiffer is → ItemsAreNamed is
  items_named no_items h d = tt
  items_named (item i is) h d = let both = has_both (graph_item i) (graph_tokens is) h in (item_named i both.0 d.0, items_named is both.1 d.1)

machine_named : (o : Option GraphItems) → HasNames (maybe machine o) → ChartDiffers o → ChartIsNamed o
machine_named None h d = tt
machine_named (Some items) h d = (d.0, items_named items (has_both (graph_tokens items) _ h).0 d.1)

behavior_named : (o : Option BehaviorTree) → HasNames (maybe behavior o) → ChartDiffers (option_and_then (λ (b : BehaviorTree). b.machine) o) → ChartIsNamed (option_and_then (λ (b : BehaviorTree). b.machine) o)
behavior_named None h d = tt
behavior_named (Some b) h d = machine_named b.machine (has_both (maybe machine b.machine) _ h).0 d

actor_named : (a : ActorTree) → HasNames (actor_class a) → ChartDiffers (chart_of a) → ChartIsNamed (chart_of a)
actor_named a h d =
    let head = (has_both (word_if _ a.event_driven) _ h).1.1 in
    let inside = (has_both (maybe extends a.base) _ head).1 in
    let behind = (has_both (maybe structure a.structure) _ (has_both (maybe interface a.interface) _ inside).1).1 in
    behavior_named a.behavior (has_both (maybe behavior a.behavior) _ behind).0 d

abbrev Named : ActorTree → Type 0
Named a = ChartIsNamed (chart_of a)

abbrev Differ : ActorTree → Type 0
Differ a = ChartDiffers (chart_of a)

all_named : (cs : List ClassTree) → AllByRecursion (λ x. HasNames (class_tokens x)) cs → All Differ (filter_map as_actor cs) → All Named (filter_map as_actor cs)
all_named [] h d = All-nil Named
all_named (ASystem s ∷ cs) h d = all_named cs h.1 d
all_named (ASubsystem s ∷ cs) h d = all_named cs h.1 d
all_named (AnActor a ∷ cs) h d = All-cons Named a (filter_map as_actor cs) (actor_named a h.0 (All-head Differ a (filter_map as_actor cs) d)) (all_named cs h.1 (All-tail Differ a (filter_map as_actor cs) d))
all_named (AProtocol p ∷ cs) h d = all_named cs h.1 d
all_named (AData x ∷ cs) h d = all_named cs h.1 d

states_named : (m : ModelTree) → HasNames (model_tokens m) → StatesDiffer m → NamesStates m
states_named m h d = record { charts = all_named m.classes (classes_read m h) d.charts }

pub read_well_named : (m : ModelTree) (t : Tables) → first_broken all_rules m ≡ None → HasNames (model_tokens m) → StatesDiffer m → IsWiringOf m t → IsWellNamed t
read_well_named m t keeps h d is = well_named m t keeps (record { references = references_named m h; parts = parts_named m h; states = states_named m h d }) is
