-- The references of a model that keeps the rules on names are called apart.
use Rattle.std.proofs.Common.{◌≡◌, ℕ, zero, suc, Bool, true, false, cond, List, [], ◌∷◌, map, Option, Some, None}
use Rattle.std.specs.Prelude.{All, slice_get, slice_index_or, not}
use Rattle.std.specs.List.{list_all, list_any, filter_map, AllByRecursion}
use Rattle.std.specs.Option.{option_map_or}
use Rattle.std.proofs.lemmas.Bool.{and_parts}
use Rattle.std.proofs.lemmas.List.Elements.{All-head, All-tail}
use Rattle.room_ast.specs.Trees.{ModelTree, ActorTree, SubsystemTree}
use Rattle.room_wiring.specs.WellNamed.{IsIdent, IsPath, NamesDiffer}
use Rattle.room_wiring.specs.declared.slot.Slot.{Slot}
use Rattle.name_tables.specs.name_numbers.Names.{same, is_among}
use Rattle.name_tables.specs.reserved_names.Words.{part_words}
use Rattle.name_tables.specs.distinct_names.Distinct.{is_distinct}
use Rattle.name_tables.proofs.distinct_names.Laws.{fact_of}
use Rattle.check_classes.specs.class_rules.Names.{part_names, are_part_names, actor_has_names, has_part_names, declared_name}
use Rattle.check_bindings.specs.structure_rules.Subsystems.{has_plain_references, subsystem_references_are_plain}
use Rattle.room_ast.specs.model_parts.Classes.{actors, subsystems, systems, wired_name, actor_names, protocol_names}
use Rattle.room_ast.specs.model_parts.Ports.{interface_of, structure_of, interface_name}
use Rattle.room_ast.specs.model_parts.References.{references_of, subsystem_references, names_of_references}
use Rattle.check_tables.specs.class_tables.Containers.{actor_container, subsystem_container, actor_containers, subsystem_containers, class_names, tables_with, tables_of}
use Rattle.check_tables.specs.declared.class_tables.container.Container.{Container}
use Rattle.wiring_plan.specs.structure_plan.Plans.{actor_plan, subsystem_plan, no_plan, wired_subsystem, plan_of}
use Rattle.wiring_plan.specs.structure_plan.Steps.{first_named}
use Rattle.wiring_plan.specs.declared.structure_plan.plan.ClassPlan.{ClassPlan}
use Rattle.wiring_slots.specs.slot_names.Names.{labels_of, nothing_wired, wired_names}
use Rattle.wiring_slots.specs.model_slots.Answers.{slots_in}
use Rattle.law_models.specs.wiring_laws.slot_paths.Labels.{AreCalled, CallsApart}
use Rattle.law_models.proofs.wiring_laws.slot_paths.Forms.{all_formed}
use Rattle.law_models.proofs.wiring_laws.slot_paths.Trees.{all_differ}
use Rattle.law_models.specs.wiring_laws.model_paths.Identifiers.{NamesReferences}
use Rattle.law_models.proofs.wiring_laws.model_paths.Names.{right_part, references_distinct}
use Rattle.law_models.proofs.wiring_laws.model_paths.Calls.{are_called, none_called}

-- an actor class whose references are called by distinct identifiers
abbrev GoodActor : ActorTree → Type 0
GoodActor a = (actor_has_names a ≡ true) × All IsIdent (names_of_references (references_of a))

-- a subsystem class whose references are
abbrev GoodSubsystem : SubsystemTree → Type 0
GoodSubsystem s = (is_distinct (names_of_references (subsystem_references s)) ≡ true) × All IsIdent (names_of_references (subsystem_references s))

good_actors : (xs : List ActorTree) → list_all actor_has_names xs ≡ true → All (λ (a : ActorTree). All IsIdent (names_of_references (references_of a))) xs → AllByRecursion GoodActor xs
good_actors [] h k = tt
good_actors (a ∷ xs) h k =
    let parts = and_parts (actor_has_names a) (list_all actor_has_names xs) h in
    ((parts.0, All-head (λ (x : ActorTree). All IsIdent (names_of_references (references_of x))) a xs k), good_actors xs parts.1 (All-tail (λ (x : ActorTree). All IsIdent (names_of_references (references_of x))) a xs k))

module _ (protocols names : List (List ℕ)) (all : List Container) where
  one_class : (a : ActorTree) → GoodActor a → AreCalled (labels_of (actor_container protocols names a)) (actor_plan all (actor_container protocols names a) (structure_of a)).references
  unfolding are_part_names
  one_class a good =
      let parts = and_parts (is_distinct (part_names (interface_of a) (structure_of a))) (not (list_any (is_among part_words) (part_names (interface_of a) (structure_of a)))) good.0 in
      let whole = fact_of (part_names (interface_of a) (structure_of a)) parts.0 in
      are_called names (references_of a) good.1 (references_distinct (structure_of a) (right_part (map interface_name (interface_of a)) (filter_map declared_name (structure_of a)) whole))

  classes_called : (xs : List ActorTree) (n : ℕ) → AllByRecursion GoodActor xs
      → AreCalled (slice_index_or (map labels_of (map (actor_container protocols names) xs)) n []) (option_map_or (λ (c : ClassPlan). c.references) (slice_get (map (λ (a : ActorTree). actor_plan all (actor_container protocols names a) (structure_of a)) xs) n) [])
  classes_called [] n good = none_called
  classes_called (a ∷ xs) zero good = one_class a good.0
  classes_called (a ∷ xs) (suc n) good = classes_called xs n good.1

  -- ---- the subsystem

  good_subsystems : (ss : List SubsystemTree) → list_all has_plain_references (map (subsystem_container names) ss) ≡ true → All (λ (s : SubsystemTree). All IsIdent (names_of_references (subsystem_references s))) ss → AllByRecursion GoodSubsystem ss
  good_subsystems [] h k = tt
  good_subsystems (s ∷ ss) h k =
      let parts = and_parts (has_plain_references (subsystem_container names s)) (list_all has_plain_references (map (subsystem_container names) ss)) h in
      let distinct = and_parts (is_distinct (names_of_references (subsystem_references s))) _ parts.0 in
      ((distinct.0, All-head (λ (x : SubsystemTree). All IsIdent (names_of_references (subsystem_references x))) s ss k), good_subsystems ss parts.1 (All-tail (λ (x : SubsystemTree). All IsIdent (names_of_references (subsystem_references x))) s ss k))

  abbrev Good : Option SubsystemTree → Type 0
  Good None = Unit {0}
  Good (Some s) = GoodSubsystem s

  one_of : (s : SubsystemTree) (rest : Option SubsystemTree) (b : Bool) → GoodSubsystem s → Good rest → Good (cond b (Some s) rest)
  one_of s rest true good more = good
  one_of s rest false good more = more

  named_good : (name : List ℕ) (ss : List SubsystemTree) → AllByRecursion GoodSubsystem ss → Good (first_named name ss)
  named_good name [] good = tt
  named_good name (s ∷ ss) good = one_of s (first_named name ss) (same name s.name) good.0 (named_good name ss good.1)

  wired_good : (ss : List SubsystemTree) (name : Option (List ℕ)) → AllByRecursion GoodSubsystem ss → Good (option_map_or (λ n. first_named n ss) name None)
  wired_good ss None good = tt
  wired_good ss (Some name) good = named_good name ss good

  subsystem_called : (o : Option SubsystemTree) → Good o
      → AreCalled (labels_of (option_map_or (λ (s : SubsystemTree). record { items = s.items; container = subsystem_container names s }) o nothing_wired).container) (option_map_or (λ (s : SubsystemTree). subsystem_plan all (subsystem_container names s) s.items) o no_plan).references
  subsystem_called None good = none_called
  subsystem_called (Some s) good = are_called names (subsystem_references s) good.1 (fact_of (names_of_references (subsystem_references s)) good.0)

-- ---- the model

calls_apart : (m : ModelTree) → has_part_names m ≡ true → subsystem_references_are_plain (tables_of m) ≡ true → NamesReferences m → CallsApart (plan_of m) (wired_names m).slots
unfolding has_part_names subsystem_references_are_plain tables_with class_names actor_containers subsystem_containers plan_of wired_names
calls_apart m parts plain idents = record {
  classes = λ n. classes_called (protocol_names m) (actor_names m) (tables_of m).actors (actors m) n (good_actors (actors m) parts idents.actors);
  subsystem =
      subsystem_called (protocol_names m) (actor_names m) (tables_of m).actors (wired_subsystem m)
      (wired_good (protocol_names m) (actor_names m) (tables_of m).actors (subsystems m) (wired_name (systems m)) (good_subsystems (protocol_names m) (actor_names m) (tables_of m).actors (subsystems m) plain idents.subsystems));
}

pub paths_apart : (m : ModelTree) → has_part_names m ≡ true → subsystem_references_are_plain (tables_of m) ≡ true → NamesReferences m → NamesDiffer (λ (x : Slot). x.path) (slots_in m)
unfolding slots_in
paths_apart m parts plain idents = all_differ (plan_of m) (wired_names m).slots (wired_names m).mappings (calls_apart m parts plain idents)

pub paths_formed : (m : ModelTree) → has_part_names m ≡ true → subsystem_references_are_plain (tables_of m) ≡ true → NamesReferences m → All (λ (x : Slot). IsPath x.path) (slots_in m)
unfolding slots_in
paths_formed m parts plain idents = all_formed (plan_of m) (wired_names m).slots (wired_names m).mappings (calls_apart m parts plain idents)
