-- The slots of a model that keeps the rules name only what there is.
use Rattle.std.proofs.Common.{◌≡◌, ◌∙◌, ℕ, ◌+◌, ◌<◌, ◌≤◌, Bool, true, false, cond, List, [], ◌∷◌, length, map, Option, Some, None, refl, sym, ap, subst, arith}
use Rattle.std.specs.Prelude.{◌&&◌, ◌==◌, nat_le, All, unwrap_or, option_and_then, codes, position}
use Rattle.std.specs.List.{filter_map, flat_map, list_all}
use Rattle.std.specs.Option.{option_map_or}
use Rattle.std.proofs.lemmas.Bool.Decides.{nat_tests}
use Rattle.std.proofs.lemmas.List.{length-map}
use Rattle.std.proofs.lemmas.List.Quantifiers.{position-Some}
use Rattle.std.proofs.lemmas.List.Elements.{All-nil, All-cons, All-append}
use Rattle.name_tables.specs.name_numbers.Names.{same, is_among}
use Rattle.room_ast.specs.MappingTree.{MappingTree, MappingOf, NestedTree, no_braces, in_braces, Mappings, no_mappings, mapping}
use Rattle.room_ast.specs.Trees.{ModelTree, ClassTree, ASystem, ASubsystem, AnActor, AProtocol, AData, ActorTree, SubsystemTree, SubsystemItemTree, AReference, ABinding, ALayer, AThread, AMapping}
use Rattle.room_ast.specs.declared.actor.ActorRef.{ActorRef}
use Rattle.room_ast.specs.declared.actor.StructureItem.{StructureItem}
use Rattle.room_ast.specs.declared.actor.StructureItem.TheVariants as structures
use Rattle.room_ast.specs.model_parts.Classes.{number_in, as_actor, as_subsystem, actors, systems, wired_name, actor_names, protocol_names, actor_names_in}
use Rattle.room_ast.specs.model_parts.Ports.{structure_of}
use Rattle.room_ast.specs.model_parts.References.{references_in, as_subsystem_reference, reference_entry}
use Rattle.check_tables.specs.class_tables.Containers.{tables_of, actor_container, subsystem_container}
use Rattle.check_tables.specs.declared.class_tables.container.Container.{Container}
use Rattle.check_classes.specs.class_rules.Ends.{structure_has_class, subsystem_has_class, references_have_classes, has_known_actors}
use Rattle.wiring_plan.specs.structure_plan.Parts.{short, reference_plan}
use Rattle.wiring_plan.specs.structure_plan.Plans.{actor_plan, subsystem_plan, no_plan, wired_subsystem, plan_of}
use Rattle.wiring_plan.specs.structure_plan.Steps.{first_named}
use Rattle.wiring_plan.specs.declared.structure_plan.plan.ClassPlan.{ClassPlan}
use Rattle.wiring_plan.specs.declared.structure_plan.plan.ReferencePlan.{ReferencePlan}
use Rattle.wiring_slots.specs.slot_tree.Known.{NamesClasses, NamesKnown, IsKnownSlot}
use Rattle.wiring_slots.specs.declared.slot_tree.names.MappingPlan.{MappingPlan}
use Rattle.check_mappings.specs.mapping_rules.Rules.{thread_names}
use Rattle.check_bindings.specs.structure_rules.Threads.{are_few, has_few_threads, threads_are_few}
use Rattle.wiring_plan.specs.wiring_classes.Labels.{label_of}
use Rattle.wiring_plan.specs.wiring_classes.Classes.{class_names, classes_of}
use Rattle.wiring_slots.proofs.slot_tree.KnownSlots.{slots_known}
use Rattle.wiring_slots.specs.slot_names.Wireds.{WiredTree}
use Rattle.wiring_slots.specs.slot_names.Names.{controllers_of, nothing_wired, wired_of, wired_names}
use Rattle.wiring_slots.specs.model_slots.Answers.{slots_in, wired}
use Rattle.wiring_slots.specs.wired_laws.Sound.{NamesWhatIs}
use Rattle.wiring_slots.specs.slot_names.Ways.{WayTree, byte_or_zero, controller_of, path_end, mappings_of, mapped_to, all_mappings, item_mappings}

left_of : (a b : Bool) → (a && b) ≡ true → a ≡ true
left_of true b h = refl
left_of false b h = absurd cc

right_of : (a b : Bool) → (a && b) ≡ true → b ≡ true
right_of true b h = h
right_of false b h = absurd cc

-- ---- classes of references

short_below : (n i : ℕ) → i < n → unwrap_or (short i) 0 < n
short_below n i lt = pick (nat_le i 65535)
  where
    pick : (b : Bool) → unwrap_or (cond b (Some i) None) 0 < n
    pick true = lt
    pick false = omega arith

some_name : (names : List (List ℕ)) (c : List ℕ) → is_among names c ≡ true → 0 < length names
some_name [] c h = absurd cc
some_name (x ∷ xs) c h = omega arith

class_below : (names : List (List ℕ)) (c : List ℕ) → is_among names c ≡ true → unwrap_or (option_and_then short (number_in names c)) 0 < length names
class_below names c h = go (position (same c) names) refl
  where
    go : (o : Option ℕ) → position (same c) names ≡ o → unwrap_or (option_and_then short o) 0 < length names
    go None e = some_name names c h
    go (Some i) e = short_below (length names) i (position-Some (same c) names i [] e).0

module _ (names : List (List ℕ)) where
  abbrev Below : ReferencePlan → Type 0
  Below r = r.class < length names

  abbrev plans : List ActorRef → List ReferencePlan
  plans rs = map reference_plan (map (reference_entry names) rs)

  structure_known : (is : List StructureItem) → list_all (structure_has_class names) is ≡ true → All Below (plans (references_in is))
  structure_known [] h = All-nil Below
  structure_known (structures.Usercode u ∷ is) h = structure_known is h
  structure_known (structures.External e ∷ is) h = structure_known is h
  structure_known (structures.Port p ∷ is) h = structure_known is h
  structure_known (structures.Access s ∷ is) h = structure_known is h
  structure_known (structures.Implementation i ∷ is) h = structure_known is h
  structure_known (structures.Attribute a ∷ is) h = structure_known is h
  structure_known (structures.Reference r ∷ is) h =
      let rest = list_all (structure_has_class names) is in
      All-cons Below (reference_plan (reference_entry names r)) (plans (references_in is)) (class_below names r.class (left_of (is_among names r.class) rest h)) (structure_known is (right_of (is_among names r.class) rest h))
  structure_known (structures.Binding b ∷ is) h = structure_known is h
  structure_known (structures.Layer l ∷ is) h = structure_known is h

  subsystem_known : (is : List SubsystemItemTree) → list_all (subsystem_has_class names) is ≡ true → All Below (plans (filter_map as_subsystem_reference is))
  subsystem_known [] h = All-nil Below
  subsystem_known (AReference r ∷ is) h =
      let rest = list_all (subsystem_has_class names) is in
      All-cons Below (reference_plan (reference_entry names r)) (plans (filter_map as_subsystem_reference is)) (class_below names r.class (left_of (is_among names r.class) rest h)) (subsystem_known is (right_of (is_among names r.class) rest h))
  subsystem_known (ABinding b ∷ is) h = subsystem_known is h
  subsystem_known (ALayer l ∷ is) h = subsystem_known is h
  subsystem_known (AThread t ∷ is) h = subsystem_known is h
  subsystem_known (AMapping m ∷ is) h = subsystem_known is h

  module _ (protocols : List (List ℕ)) (all : List Container) where
    abbrev made : ActorTree → ClassPlan
    made a = actor_plan all (actor_container protocols names a) (structure_of a)

    abbrev Known : ClassPlan → Type 0
    Known c = NamesClasses (length names) c

    all_known : (ks : List ClassTree) → list_all (references_have_classes names) ks ≡ true → All Known (map made (filter_map as_actor ks))
    all_known [] h = All-nil Known
    all_known (ASystem s ∷ ks) h = all_known ks h
    all_known (ASubsystem s ∷ ks) h = all_known ks (right_of (references_have_classes names (ASubsystem s)) (list_all (references_have_classes names) ks) h)
    all_known (AnActor a ∷ ks) h =
        let rest = list_all (references_have_classes names) ks in
        All-cons Known (made a) (map made (filter_map as_actor ks)) (structure_known (structure_of a) (left_of (references_have_classes names (AnActor a)) rest h)) (all_known ks (right_of (references_have_classes names (AnActor a)) rest h))
    all_known (AProtocol p ∷ ks) h = all_known ks h
    all_known (AData d ∷ ks) h = all_known ks h

    abbrev KnownIn : Option SubsystemTree → Type 0
    KnownIn o = Known (option_map_or (λ (s : SubsystemTree). subsystem_plan all (subsystem_container names s) s.items) o no_plan)

    first_known : (s : SubsystemTree) (rest : Option SubsystemTree) (b : Bool) → KnownIn (Some s) → KnownIn rest → KnownIn (cond b (Some s) rest)
    first_known s rest true here more = here
    first_known s rest false here more = more

    named_known : (name : List ℕ) (ks : List ClassTree) → list_all (references_have_classes names) ks ≡ true → KnownIn (first_named name (filter_map as_subsystem ks))
    named_known name [] h = All-nil Below
    named_known name (ASystem s ∷ ks) h = named_known name ks h
    named_known name (ASubsystem s ∷ ks) h =
        let rest = list_all (references_have_classes names) ks in
        first_known s (first_named name (filter_map as_subsystem ks)) (same name s.name) (subsystem_known s.items (left_of (references_have_classes names (ASubsystem s)) rest h)) (named_known name ks (right_of (references_have_classes names (ASubsystem s)) rest h))
    named_known name (AnActor a ∷ ks) h = named_known name ks (right_of (references_have_classes names (AnActor a)) (list_all (references_have_classes names) ks) h)
    named_known name (AProtocol p ∷ ks) h = named_known name ks h
    named_known name (AData d ∷ ks) h = named_known name ks h

    wired_known : (ks : List ClassTree) → list_all (references_have_classes names) ks ≡ true → (name : Option (List ℕ)) → KnownIn (option_map_or (λ n. first_named n (filter_map as_subsystem ks)) name None)
    wired_known ks h None = All-nil Below
    wired_known ks h (Some n) = named_known n ks h

-- ---- controllers of mappings

module _ (all : List Container) (threads : List (List ℕ)) (k : ℕ) (some : 0 < k) (enough : length threads ≤ k) where
  byte_below : (n : ℕ) → n < k → byte_or_zero n < k
  byte_below n lt = pick (nat_le n 255)
    where
      pick : (b : Bool) → cond b n 0 < k
      pick true = lt
      pick false = some

  controller_below : (name : List ℕ) → (controller_of threads name).0 < k
  controller_below name = go (position (same name) threads) refl
    where
      go : (o : Option ℕ) → position (same name) threads ≡ o → byte_or_zero (unwrap_or o 0) < k
      go None e = byte_below 0 some
      go (Some i) e = let lt = (position-Some (same name) threads i [] e).0 in byte_below i (omega (arith, lt, enough))

  abbrev Mapped : MappingPlan → Type 0
  Mapped m = m.controller.0 < k

  mutual
    mapping_known : (w : WayTree) (m : MappingTree) → All Mapped (mappings_of all threads w m)
    mapping_known w (MappingOf path thread nested) = behind_known thread nested (path_end all w path)

    behind_known : (thread : List ℕ) (nested : NestedTree) (o : Option WayTree) → All Mapped (option_map_or (mapped_to all threads thread nested) o [])
    behind_known thread nested None = All-nil Mapped
    behind_known thread no_braces (Some v) = All-cons Mapped (record { steps = v.steps; controller = controller_of threads thread }) [] (controller_below thread) (All-nil Mapped)
    behind_known thread (in_braces ms) (Some v) = All-cons Mapped (record { steps = v.steps; controller = controller_of threads thread }) (all_mappings all threads v ms) (controller_below thread) (mappings_known v ms)

    mappings_known : (w : WayTree) (ms : Mappings) → All Mapped (all_mappings all threads w ms)
    mappings_known w no_mappings = All-nil Mapped
    mappings_known w (mapping m ms) = All-append Mapped (mappings_of all threads w m) (all_mappings all threads w ms) (mapping_known w m) (mappings_known w ms)

  item_known : (w : WayTree) (i : SubsystemItemTree) → All Mapped (item_mappings all threads w i)
  item_known w (AReference r) = All-nil Mapped
  item_known w (ABinding b) = All-nil Mapped
  item_known w (ALayer l) = All-nil Mapped
  item_known w (AThread t) = All-nil Mapped
  item_known w (AMapping m) = mapping_known w m

  pub items_known : (w : WayTree) (is : List SubsystemItemTree) → All Mapped (flat_map (item_mappings all threads w) is)
  items_known w [] = All-nil Mapped
  items_known w (i ∷ is) = All-append Mapped (item_mappings all threads w i) (flat_map (item_mappings all threads w) is) (item_known w i) (items_known w is)

-- ---- controllers

-- so many threads
abbrev FewThreads : Option SubsystemTree → Type 0
FewThreads o = length (option_map_or (λ (s : SubsystemTree). thread_names s.items) o []) ≤ 32

one_few : (s : SubsystemTree) → are_few (thread_names s.items) ≡ true → FewThreads (Some s)
one_few s h = below (length (thread_names s.items)) (left_of (nat_le (length (thread_names s.items)) 32) _ h)
  where
    below : (n : ℕ) → nat_le n 32 ≡ true → n ≤ 32
    below n e = grind (arith, nat_tests)

first_few : (s : SubsystemTree) (rest : Option SubsystemTree) (b : Bool) → FewThreads (Some s) → FewThreads rest → FewThreads (cond b (Some s) rest)
first_few s rest true here more = here
first_few s rest false here more = more

named_few : (name : List ℕ) (ks : List ClassTree) → list_all has_few_threads ks ≡ true → FewThreads (first_named name (filter_map as_subsystem ks))
named_few name [] h = omega arith
named_few name (ASystem s ∷ ks) h = named_few name ks h
named_few name (ASubsystem s ∷ ks) h =
    first_few s (first_named name (filter_map as_subsystem ks)) (same name s.name) (one_few s (left_of (are_few (thread_names s.items)) (list_all has_few_threads ks) h)) (named_few name ks (right_of (are_few (thread_names s.items)) (list_all has_few_threads ks) h))
named_few name (AnActor a ∷ ks) h = named_few name ks h
named_few name (AProtocol p ∷ ks) h = named_few name ks h
named_few name (AData d ∷ ks) h = named_few name ks h

wired_few : (ks : List ClassTree) → list_all has_few_threads ks ≡ true → (name : Option (List ℕ)) → FewThreads (option_map_or (λ n. first_named n (filter_map as_subsystem ks)) name None)
wired_few ks h None = omega arith
wired_few ks h (Some n) = named_few n ks h

-- the threads of the class that is wired
items_of_wired : {C : Type 0} (of : SubsystemTree → C) (none : C) (items : C → List SubsystemItemTree) → ((s : SubsystemTree) → items (of s) ≡ s.items) → items none ≡ [] → (o : Option SubsystemTree)
    → thread_names (items (option_map_or of o none)) ≡ option_map_or (λ (s : SubsystemTree). thread_names s.items) o []
items_of_wired of none items some e None = ap thread_names e
items_of_wired of none items some e (Some s) = ap thread_names (some s)

controller_count : (threads : List (List ℕ)) → (0 < length (controllers_of threads)) × (length threads ≤ length (controllers_of threads)) × (length (controllers_of threads) ≤ length threads + 1)
controller_count threads = pick (length threads == 0) refl
  where
    pick : (b : Bool) → (length threads == 0) ≡ b
        → (0 < length (cond b (codes "default" ∷ []) (map label_of threads))) × (length threads ≤ length (cond b (codes "default" ∷ []) (map label_of threads))) × (length (cond b (codes "default" ∷ []) (map label_of threads)) ≤ length threads + 1)
    pick true e = let none : length threads ≡ 0 = grind (arith, nat_tests) in (omega arith, omega (arith, none), omega arith)
    pick false e = let same = length-map threads label_of in let some : 0 < length threads = grind (arith, nat_tests) in (omega (arith, same, some), omega (arith, same), omega (arith, same))

pub names_what_is : (m : ModelTree) → has_known_actors m ≡ true → threads_are_few m ≡ true → NamesWhatIs (wired m)
unfolding has_known_actors threads_are_few classes_of wired_names slots_in plan_of actor_names_in
names_what_is m actors_known few =
    let threads = thread_names (wired_of m).items in
    let counts = controller_count threads in
    let few_threads = wired_few m.classes few (wired_name (systems m)) in
    let these : threads ≡ option_map_or (λ (s : SubsystemTree). thread_names s.items) (wired_subsystem m) [] =
    items_of_wired (λ (s : SubsystemTree). let w : WiredTree = record { items = s.items; container = subsystem_container (actor_names m) s } in w) nothing_wired (λ (w : WiredTree). w.items) (λ s. refl) refl (wired_subsystem m)
    in
    let size = ap length these in
    let classes = length-map (actors m) (class_names m) in
    let named = length-map (actors m) (λ (a : ActorTree). a.name) in
    let n_is : length (actor_names m) ≡ length (classes_of m) = named ∙ sym classes in
    let known : NamesKnown (length (actor_names m)) (length (controllers_of threads)) (plan_of m) (wired_names m).mappings = record {
      classes = all_known (actor_names m) (protocol_names m) (tables_of m).actors m.classes actors_known;
      subsystem = wired_known (actor_names m) (protocol_names m) (tables_of m).actors m.classes actors_known (wired_name (systems m));
      some_controller = counts.0;
      mapped = items_known (tables_of m).actors threads (length (controllers_of threads)) counts.0 counts.1 (record { steps = []; place = Some (wired_of m).container }) (wired_of m).items;
    } in
    record {
      slots = subst (λ n. All (IsKnownSlot n (length (controllers_of threads))) (slots_in m)) n_is (slots_known (length (actor_names m)) (length (controllers_of threads)) (plan_of m) (wired_names m).slots (wired_names m).mappings known);
      some_controller = counts.0;
      few_controllers = omega (arith, counts.2, size, few_threads);
    }
