-- In a model within the limits each class has few references.
use Rattle.std.proofs.Common.{◌≡◌, ℕ, ◌≤◌, Bool, true, false, cond, List, [], ◌∷◌, length, map, Option, Some, None, refl, arith}
use Rattle.std.specs.Prelude.{◌&&◌, nat_le, All}
use Rattle.std.specs.List.{filter_map, list_all}
use Rattle.std.specs.Option.{option_map_or}
use Rattle.std.proofs.lemmas.Bool.Decides.{nat_tests}
use Rattle.std.proofs.lemmas.List.{length-map}
use Rattle.std.proofs.lemmas.List.Elements.{All-nil, All-cons}
use Rattle.name_tables.specs.name_numbers.Names.{same}
use Rattle.room_ast.specs.Trees.{ModelTree, ClassTree, ASystem, ASubsystem, AnActor, AProtocol, AData, ActorTree, SubsystemTree}
use Rattle.room_ast.specs.model_parts.Classes.{as_actor, as_subsystem, systems, wired_name, actor_names, protocol_names}
use Rattle.room_ast.specs.model_parts.Ports.{structure_of}
use Rattle.room_ast.specs.model_parts.References.{references_of, subsystem_references, reference_entry}
use Rattle.check_tables.specs.class_tables.Containers.{tables_of, actor_container, subsystem_container}
use Rattle.check_tables.specs.declared.class_tables.container.Container.{Container}
use Rattle.check_mappings.specs.count_rules.Counts.{parts_are_few, ports_are_few, references_are_few, states_are_few, has_few_parts}
use Rattle.wiring_plan.specs.structure_plan.Parts.{reference_plan}
use Rattle.wiring_plan.specs.structure_plan.Plans.{actor_plan, subsystem_plan, no_plan, plan_of}
use Rattle.wiring_plan.specs.structure_plan.Steps.{first_named}
use Rattle.wiring_plan.specs.declared.structure_plan.plan.ClassPlan.{ClassPlan}
use Rattle.wiring_slots.specs.slot_tree.Placing.{IsNumbered}

left_of : (a b : Bool) → (a && b) ≡ true → a ≡ true
left_of true b h = refl
left_of false b h = absurd cc

right_of : (a b : Bool) → (a && b) ≡ true → b ≡ true
right_of true b h = h
right_of false b h = absurd cc

few_number : (n : ℕ) → nat_le n 60000 ≡ true → n ≤ 65536
few_number n h = grind (arith, nat_tests)

abbrev HasFew : ClassPlan → Type 0
HasFew c = length c.references ≤ 65536

module _ (names : List (List ℕ)) (protocols : List (List ℕ)) (all : List Container) where
  abbrev made : ActorTree → ClassPlan
  made a = actor_plan all (actor_container protocols names a) (structure_of a)

  one_actor : (a : ActorTree) → references_are_few a ≡ true → HasFew (made a)
  one_actor a h =
      let one = length-map (map (reference_entry names) (references_of a)) reference_plan in
      let two = length-map (references_of a) (reference_entry names) in
      let few = few_number (length (references_of a)) h in
      omega (arith, one, two, few)

  all_actors : (ks : List ClassTree) → list_all parts_are_few ks ≡ true → All HasFew (map made (filter_map as_actor ks))
  all_actors [] h = All-nil HasFew
  all_actors (ASystem s ∷ ks) h = all_actors ks (right_of true (list_all parts_are_few ks) h)
  all_actors (ASubsystem s ∷ ks) h = all_actors ks (right_of (parts_are_few (ASubsystem s)) (list_all parts_are_few ks) h)
  all_actors (AnActor a ∷ ks) h =
      let here = left_of (parts_are_few (AnActor a)) (list_all parts_are_few ks) h in
      let few = right_of (ports_are_few a) (references_are_few a) (left_of (ports_are_few a && references_are_few a) (states_are_few a) here) in
      All-cons HasFew (made a) (map made (filter_map as_actor ks)) (one_actor a few) (all_actors ks (right_of (parts_are_few (AnActor a)) (list_all parts_are_few ks) h))
  all_actors (AProtocol p ∷ ks) h = all_actors ks (right_of (parts_are_few (AProtocol p)) (list_all parts_are_few ks) h)
  all_actors (AData d ∷ ks) h = all_actors ks (right_of (parts_are_few (AData d)) (list_all parts_are_few ks) h)

  abbrev made_subsystem : SubsystemTree → ClassPlan
  made_subsystem s = subsystem_plan all (subsystem_container names s) s.items

  one_subsystem : (s : SubsystemTree) → nat_le (length (subsystem_references s)) 60000 ≡ true → HasFew (made_subsystem s)
  one_subsystem s h =
      let one = length-map (map (reference_entry names) (subsystem_references s)) reference_plan in
      let two = length-map (subsystem_references s) (reference_entry names) in
      let few = few_number (length (subsystem_references s)) h in
      omega (arith, one, two, few)

  abbrev FewIn : Option SubsystemTree → Type 0
  FewIn o = HasFew (option_map_or made_subsystem o no_plan)

  none_few : FewIn None
  none_few = omega arith

  first_few : (name : List ℕ) (s : SubsystemTree) (rest : Option SubsystemTree) (b : Bool) → HasFew (made_subsystem s) → FewIn rest → FewIn (cond b (Some s) rest)
  first_few name s rest true here more = here
  first_few name s rest false here more = more

  named_few : (name : List ℕ) (ks : List ClassTree) → list_all parts_are_few ks ≡ true → FewIn (first_named name (filter_map as_subsystem ks))
  named_few name [] h = none_few
  named_few name (ASystem s ∷ ks) h = named_few name ks (right_of true (list_all parts_are_few ks) h)
  named_few name (ASubsystem s ∷ ks) h =
      first_few name s (first_named name (filter_map as_subsystem ks)) (same name s.name) (one_subsystem s (left_of (parts_are_few (ASubsystem s)) (list_all parts_are_few ks) h))
      (named_few name ks (right_of (parts_are_few (ASubsystem s)) (list_all parts_are_few ks) h))
  named_few name (AnActor a ∷ ks) h = named_few name ks (right_of (parts_are_few (AnActor a)) (list_all parts_are_few ks) h)
  named_few name (AProtocol p ∷ ks) h = named_few name ks (right_of (parts_are_few (AProtocol p)) (list_all parts_are_few ks) h)
  named_few name (AData d ∷ ks) h = named_few name ks (right_of (parts_are_few (AData d)) (list_all parts_are_few ks) h)

  wired_few : (ks : List ClassTree) → list_all parts_are_few ks ≡ true → (name : Option (List ℕ)) → FewIn (option_map_or (λ n. first_named n (filter_map as_subsystem ks)) name None)
  wired_few ks h None = none_few
  wired_few ks h (Some n) = named_few n ks h

-- a model within the limits has numbers of 16 bits for its references
pub numbered_from_few : (m : ModelTree) → has_few_parts m ≡ true → IsNumbered (plan_of m)
unfolding has_few_parts plan_of
numbered_from_few m h =
    let parts = right_of _ (list_all parts_are_few m.classes) (left_of _ _ h) in
    record {
      classes = all_actors (actor_names m) (protocol_names m) (tables_of m).actors m.classes parts;
      subsystem = wired_few (actor_names m) (protocol_names m) (tables_of m).actors m.classes parts (wired_name (systems m));
    }
