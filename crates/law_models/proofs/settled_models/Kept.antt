-- The mappings of a model that keeps all rules end where they may, and what follows for its wiring.
use Rattle.std.proofs.Common.{◌≡◌, ℕ, zero, suc, ◌<◌, ◌≤◌, Bool, true, false, cond, List, [], ◌∷◌, length, map, Option, Some, None, slice_get, refl, ap, subst, arith, le-leb}
use Rattle.std.specs.Prelude.{◌&&◌, nat_le, count_by}
use Rattle.std.specs.List.{AllByRecursion as Each, list_all, filter_map}
use Rattle.std.specs.Option.{option_map_or}
use Rattle.std.proofs.lemmas.Bool.Decides.{nat_tests}
use Rattle.std.proofs.lemmas.List.Sums.{sum_by-cons}
use Rattle.std.proofs.lemmas.Option.{same_Some}
use Rattle.name_tables.specs.name_numbers.Names.{same}
use Rattle.room_ast.specs.Trees.{ModelTree, ClassTree, ASystem, ASubsystem, AnActor, AProtocol, AData, ActorTree, SubsystemTree}
use Rattle.room_ast.specs.model_parts.Classes.{as_actor, actors, subsystems, systems, wired_name, actor_names, protocol_names}
use Rattle.room_ast.specs.model_parts.Ports.{structure_of}
use Rattle.room_wiring.specs.declared.tables.Tables.{Tables}
use Rattle.check_tables.specs.class_tables.Containers.{actor_container, actor_containers, subsystem_container, class_names, tables_with, tables_of}
use Rattle.check_tables.specs.declared.class_tables.container.Container.{Container}
use Rattle.check_mappings.specs.count_rules.Counts.{is_counted, classes_are_few, parts_are_few, numbers_are_few, has_few_parts}
use Rattle.check_mappings.specs.mapping_rules.Rules.{thread_names, wired as wired_here, subsystem_known, subsystem_allowed, mappings_are_known, mappings_are_allowed, mappings_are_distinct}
use Rattle.structure_check.specs.Rules.{first_broken}
use Rattle.structure_check.specs.List.{all_rules}
use Rattle.structure_check.specs.declared.flat_rule.FlatRule.TheVariants as rules
use Rattle.structure_check.proofs.KeptRules.{rule_kept, all_few}
use Rattle.wiring_plan.specs.structure_plan.Parts.{short, reference_plan}
use Rattle.wiring_plan.specs.structure_plan.Plans.{actor_plan, subsystem_plan, no_plan, wired_subsystem, plan_of}
use Rattle.wiring_plan.specs.structure_plan.Steps.{first_named}
use Rattle.wiring_plan.specs.declared.structure_plan.plan.ClassPlan.{ClassPlan}
use Rattle.wiring_slots.specs.slot_names.Names.{mappings_in, nothing_wired, wired_names}
use Rattle.wiring_slots.specs.slot_names.Wireds.{WiredTree}
use Rattle.wiring_slots.specs.model_slots.Answers.{slots_in}
use Rattle.law_agreement.specs.Bodies.{OthersLiveFromStart}
use Rattle.law_models.proofs.settled_models.Paths.{EndsWell}
use Rattle.law_models.proofs.settled_models.Mapped.{both, HasClasses, subsystem_ends}
use Rattle.law_models.proofs.settled_models.Trails.{others_live}

-- ---- classes

actors_counted : (ks : List ClassTree) → length (filter_map as_actor ks) ≤ count_by is_counted ks
actors_counted [] = omega arith
actors_counted (ASystem s ∷ ks) = let more = actors_counted ks in let sum = sum_by-cons (λ k. cond (is_counted k) 1 0) (ASystem s) ks in omega (arith, more, sum)
actors_counted (ASubsystem s ∷ ks) = let more = actors_counted ks in let sum = sum_by-cons (λ k. cond (is_counted k) 1 0) (ASubsystem s) ks in omega (arith, more, sum)
actors_counted (AnActor a ∷ ks) = let more = actors_counted ks in let sum = sum_by-cons (λ k. cond (is_counted k) 1 0) (AnActor a) ks in omega (arith, more, sum)
actors_counted (AProtocol p ∷ ks) = let more = actors_counted ks in let sum = sum_by-cons (λ k. cond (is_counted k) 1 0) (AProtocol p) ks in omega (arith, more, sum)
actors_counted (AData d ∷ ks) = let more = actors_counted ks in let sum = sum_by-cons (λ k. cond (is_counted k) 1 0) (AData d) ks in omega (arith, more, sum)

few_number : (n : ℕ) → nat_le n 60000 ≡ true → n ≤ 60000
few_number n h = grind (arith, nat_tests)

module _ (m : ModelTree) (few : has_few_parts m ≡ true) where
  actors_few : length (actors m) ≤ 60000
  unfolding has_few_parts
  actors_few =
      let all = few_number (count_by is_counted m.classes) (both (classes_are_few m.classes) (list_all parts_are_few m.classes) (both (classes_are_few m.classes && list_all parts_are_few m.classes) (list_all (numbers_are_few m) (actors m)) few).0).0 in
      let counted = actors_counted m.classes in
      omega (arith, all, counted)

  abbrev table : ActorTree → Container
  table = actor_container (protocol_names m) (actor_names m)

  abbrev planned : ActorTree → ClassPlan
  planned a = actor_plan (tables_of m).actors (table a) (structure_of a)

  class_planned : (xs : List ActorTree) (k : ℕ) (c : Container) → slice_get (map table xs) k ≡ Some c
      → (k < length xs) × (option_map_or (λ (x : ClassPlan). x.references) (slice_get (map planned xs) k) [] ≡ map reference_plan c.references)
  class_planned [] k c e = absurd cc
  class_planned (a ∷ xs) zero c e = (omega arith, ap (λ (x : Container). map reference_plan x.references) (same_Some (table a) c e))
  class_planned (a ∷ xs) (suc k) c e = let more = class_planned xs k c e in let lt = more.0 in (omega (arith, lt), more.1)

  short_is : (k : ℕ) → k < length (actors m) → short k ≡ Some k
  short_is k lt = let all = actors_few in ap (λ b. cond b (Some k) None) (le-leb k 65535 (omega (arith, all, lt)))

  has_classes : HasClasses (plan_of m) (tables_of m).actors
  unfolding plan_of tables_with class_names actor_containers
  has_classes = record { each = λ k c e. let at = class_planned (actors m) k c e in (short_is k at.0, at.1) }

  -- ---- the subsystem class that is wired

  named_all : {Y : Type 0} (g : Y → Bool) (h : SubsystemTree → Y) (name : List ℕ) (ss : List SubsystemTree) (s : SubsystemTree) → list_all g (map h ss) ≡ true → first_named name ss ≡ Some s → g (h s) ≡ true
  named_all g h name [] s all e = absurd cc
  named_all {Y} g h name (x ∷ xs) s all e =
      let parts = both (g (h x)) (list_all g (map h xs)) all in pick (same name x.name) parts.0 (named_all g h name xs s parts.1) e
    where
      pick : (b : Bool) → g (h x) ≡ true → (first_named name xs ≡ Some s → g (h s) ≡ true) → cond b (Some x) (first_named name xs) ≡ Some s → g (h s) ≡ true
      pick true here more k = subst (λ z. g (h z) ≡ true) (same_Some x s k) here
      pick false here more k = more k

  pub wired_all : {Y : Type 0} (g : Y → Bool) (h : SubsystemTree → Y) (s : SubsystemTree) → list_all g (map h (subsystems m)) ≡ true
      → (o : Option (List ℕ)) → option_map_or (λ name. first_named name (subsystems m)) o None ≡ Some s → g (h s) ≡ true
  wired_all g h s all None e = absurd cc
  wired_all g h s all (Some n) e = named_all g h n (subsystems m) s all e

  abbrev seen : SubsystemTree → WiredTree
  seen s = record { items = s.items; container = subsystem_container (actor_names m) s }

  pub planned_here : (s : SubsystemTree) → wired_subsystem m ≡ Some s → (plan_of m).subsystem.references ≡ map reference_plan (subsystem_container (actor_names m) s).references
  unfolding plan_of
  planned_here s e =
      ap (λ (o : Option SubsystemTree). (option_map_or (λ (x : SubsystemTree). subsystem_plan (tables_of m).actors (subsystem_container (actor_names m) x) x.items) o no_plan).references) e

  module _ (known : mappings_are_known m ≡ true) (allowed : mappings_are_allowed m ≡ true) where
    known_here : (s : SubsystemTree) → wired_subsystem m ≡ Some s → subsystem_known (tables_of m).actors (wired_here (actor_names m) s) ≡ true
    unfolding mappings_are_known tables_with class_names
    known_here s e = wired_all (subsystem_known (tables_of m).actors) (wired_here (actor_names m)) s known (wired_name (systems m)) e

    allowed_here : (s : SubsystemTree) → wired_subsystem m ≡ Some s → subsystem_allowed (tables_of m).actors (wired_here (actor_names m) s) ≡ true
    unfolding mappings_are_allowed tables_with class_names
    allowed_here s e = wired_all (subsystem_allowed (tables_of m).actors) (wired_here (actor_names m)) s allowed (wired_name (systems m)) e

    pub model_ends : Each (EndsWell (plan_of m)) (wired_names m).mappings
    unfolding wired_names
    model_ends = by_subsystem (wired_subsystem m) refl
      where
        by_subsystem : (o : Option SubsystemTree) → wired_subsystem m ≡ o → Each (EndsWell (plan_of m)) (mappings_in (tables_of m).actors (option_map_or seen o nothing_wired))
        by_subsystem None e = tt
        by_subsystem (Some s) e =
            subsystem_ends (tables_of m).actors (plan_of m) has_classes (thread_names s.items) (subsystem_container (actor_names m) s) (planned_here s e) s.items (known_here s e) (allowed_here s e)

pub model_others_live : (m : ModelTree) (t : Tables) → first_broken all_rules m ≡ None → t.slots ≡ slots_in m → OthersLiveFromStart t
unfolding slots_in
model_others_live m t keeps slots =
    let known = (both (mappings_are_known m) (mappings_are_distinct m) (rule_kept m keeps rules.KnownMappings)).0 in
    others_live t (plan_of m) (wired_names m).slots (wired_names m).mappings slots (model_ends m (all_few m keeps) known (rule_kept m keeps rules.AllowedMappings))
