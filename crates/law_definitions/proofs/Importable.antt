-- Where a model keeps all rules, the classes of its imported slots can be imported.
use Rattle.std.proofs.Common.{◌≡◌, ◌∙◌, ℕ, zero, suc, ◌≤◌, Bool, true, false, cond, not, List, [], ◌∷◌, length, map, filter_map, Option, Some, None, slice_get, slice_index_or, option_map, option_and_then, unwrap_or, refl, sym, ap, subst, arith}
use Rattle.std.specs.Prelude.{◌&&◌, ◌||◌}
use Rattle.std.specs.List.{list_all}
use Rattle.std.specs.Option.{option_map_or}
use Rattle.std.proofs.lemmas.Bool.{and_parts}
use Rattle.std.proofs.lemmas.Option.{same_Some, slice_get-map}
use Rattle.name_tables.specs.distinct_names.Distinct.{is_distinct}
use Rattle.name_tables.specs.name_numbers.Names.{same, is_among}
use Rattle.room_kinds.specs.Structure.{is_imported}
use Rattle.room_kinds.specs.declared.structure.ReferenceKind.{ReferenceKind}
use Rattle.room_kinds.specs.declared.structure.ReferenceKind.TheVariants as kinds
use Rattle.room_ast.specs.Trees.{ModelTree, ClassTree, ASystem, ASubsystem, AnActor, AProtocol, AData, ActorTree, SubsystemTree}
use Rattle.room_ast.specs.declared.actor.ActorRef.{ActorRef}
use Rattle.room_ast.specs.declared.actor.StructureItem.{StructureItem}
use Rattle.room_ast.specs.declared.actor.StructureItem.TheVariants as structures
use Rattle.room_ast.specs.declared.model_parts.entries.ReferenceEntry.{ReferenceEntry}
use Rattle.room_ast.specs.model_parts.Classes.{number_in, as_actor, subsystems, systems, wired_name, actor_names, protocol_names}
use Rattle.room_ast.specs.model_parts.Ports.{structure_of}
use Rattle.room_ast.specs.model_parts.References.{references_in, reference_entry, kind_of}
use Rattle.room_wiring.specs.declared.slot.Slot.{Slot}
use Rattle.check_tables.specs.class_tables.Containers.{actor_container, actor_containers, subsystem_container, subsystem_containers, class_names, tables_with, tables_of}
use Rattle.check_tables.specs.declared.class_tables.container.Container.{Container}
use Rattle.check_classes.specs.class_rules.Ends.{structure_has_class, references_have_classes, has_known_actors}
use Rattle.check_bindings.specs.structure_rules.Imported.{can_be_imported, is_importable, imports_fit, importable_classes, imported_classes_have_end_ports}
use Rattle.check_bindings.specs.structure_rules.Replication.{replicates_in_range}
use Rattle.check_bindings.specs.structure_rules.Subsystems.{is_fixed, has_plain_references, subsystem_references_are_plain}
use Rattle.structure_check.specs.Rules.{first_broken}
use Rattle.structure_check.specs.List.{all_rules}
use Rattle.structure_check.specs.declared.flat_rule.FlatRule.TheVariants as rules
use Rattle.structure_check.proofs.KeptRules.{rule_kept, all_few}
use Rattle.wiring_plan.specs.structure_plan.Parts.{short, reference_plan}
use Rattle.wiring_plan.specs.structure_plan.Plans.{actor_plan, subsystem_plan, no_plan, plan_of}
use Rattle.wiring_plan.specs.structure_plan.Steps.{first_named}
use Rattle.wiring_plan.specs.declared.structure_plan.plan.ClassPlan.{ClassPlan}
use Rattle.wiring_plan.specs.declared.structure_plan.plan.ReferencePlan.{ReferencePlan}
use Rattle.wiring_slots.specs.model_slots.Answers.{slots_in}
use Rattle.wiring_places.specs.place_rules.Parts.{no_class, class_plan, container_of, container_class, inside_of}
use Rattle.binding_expand.proofs.Kept.{known, finite, layers}
use Rattle.binding_expand.proofs.pair_laws.Models.{model_slots}
use Rattle.binding_expand.proofs.plan_laws.Numbers.{number_found, class_is, names_few}

-- ---- truth values

both_true : (a b : Bool) → a ≡ true → b ≡ true → (a && b) ≡ true
both_true true b p q = q
both_true false b p q = p

-- the second holds where the first doesn't fail
then_second : (a b : Bool) → a ≡ true → (not a || b) ≡ true → b ≡ true
then_second true b i h = h
then_second false b i h = absurd cc

-- ---- rules on places that are kept

pub model_rules : (m : ModelTree) → first_broken all_rules m ≡ None
    → (replicates_in_range (tables_of m) ≡ true) × (subsystem_references_are_plain (tables_of m) ≡ true) × (imported_classes_have_end_ports (tables_of m) ≡ true)
model_rules m keeps = (rule_kept m keeps rules.Replication, rule_kept m keeps rules.PlainSubsystems, rule_kept m keeps rules.ImportedEnds)

-- ---- the references of a class

-- the actor class of this number, if there is one, can be imported
abbrev pub CanBe : List Container → ℕ → Type 0
CanBe all n = (c : Container) → slice_get all n ≡ Some c → can_be_imported c ≡ true

-- the classes of those of these references that are imported can be imported
abbrev FitReferences : List Container → List ReferencePlan → Type 0
FitReferences all references = (n : ℕ) (r : ReferencePlan) → slice_get references n ≡ Some r → is_imported r.kind ≡ true → CanBe all r.class

none_fit : (all : List Container) → FitReferences all []
none_fit all n r e i = absurd cc

module _ (all : List Container) (names : List (List ℕ)) (few : length names ≤ 60000) where
  abbrev importable : List Bool
  importable = map can_be_imported all

  abbrev is_known : ActorRef → Bool
  is_known r = is_among names r.class

  abbrev fits : ReferenceEntry → Bool
  fits r = not (is_imported r.kind) || is_importable importable r.class

  number_fits : (n : ℕ) (c : Container) → slice_get all n ≡ Some c → is_importable importable (Some n) ≡ true → can_be_imported c ≡ true
  number_fits n c at is = sym (ap (λ o. unwrap_or o true) (slice_get-map can_be_imported all n ∙ ap (option_map can_be_imported) at)) ∙ is

  reference_fits : (r : ActorRef) → is_known r ≡ true → fits (reference_entry names r) ≡ true → is_imported (kind_of r) ≡ true → CanBe all (reference_plan (reference_entry names r)).class
  reference_fits r among fit imported c at =
      let found = number_found names r.class among in
      let lt = found.2 in
      let class : unwrap_or (option_and_then short (number_in names r.class)) 0 ≡ found.0 = class_is (number_in names r.class) found.0 found.1 (omega (arith, lt, few)) in
      number_fits found.0 c (ap (slice_get all) (sym class) ∙ at)
      (ap (is_importable importable) (sym found.1) ∙ then_second (is_imported (kind_of r)) (is_importable importable (number_in names r.class)) imported fit)

  references_fit : (rs : List ActorRef) → list_all is_known rs ≡ true → list_all fits (map (reference_entry names) rs) ≡ true
      → FitReferences all (map reference_plan (map (reference_entry names) rs))
  references_fit [] k f n r e i = absurd cc
  references_fit (x ∷ xs) k f zero r e i =
      let same = same_Some (reference_plan (reference_entry names x)) r e in
      subst (λ (z : ReferencePlan). CanBe all z.class) same
      (reference_fits x (and_parts (is_known x) (list_all is_known xs) k).0 (and_parts (fits (reference_entry names x)) (list_all fits (map (reference_entry names) xs)) f).0
      (ap (λ (z : ReferencePlan). is_imported z.kind) same ∙ i))
  references_fit (x ∷ xs) k f (suc n) r e i =
      references_fit xs (and_parts (is_known x) (list_all is_known xs) k).1 (and_parts (fits (reference_entry names x)) (list_all fits (map (reference_entry names) xs)) f).1 n r e i

  known_references : (is : List StructureItem) → list_all (structure_has_class names) is ≡ true → list_all is_known (references_in is) ≡ true
  known_references [] h = refl
  known_references (structures.Usercode u ∷ is) h = known_references is h
  known_references (structures.External e ∷ is) h = known_references is h
  known_references (structures.Port p ∷ is) h = known_references is h
  known_references (structures.Access s ∷ is) h = known_references is h
  known_references (structures.Implementation i ∷ is) h = known_references is h
  known_references (structures.Attribute a ∷ is) h = known_references is h
  known_references (structures.Reference r ∷ is) h =
      let parts = and_parts (is_known r) (list_all (structure_has_class names) is) h in
      both_true (is_known r) (list_all is_known (references_in is)) parts.0 (known_references is parts.1)
  known_references (structures.Binding b ∷ is) h = known_references is h
  known_references (structures.Layer l ∷ is) h = known_references is h

  module _ (protocols : List (List ℕ)) where
    abbrev table : ActorTree → Container
    table a = actor_container protocols names a

    abbrev planned : ActorTree → ClassPlan
    planned a = actor_plan all (table a) (structure_of a)

    pub classes_fit : (ks : List ClassTree) → list_all (references_have_classes names) ks ≡ true → list_all (imports_fit importable) (map table (filter_map as_actor ks)) ≡ true
        → (k : ℕ) → FitReferences all (slice_index_or (map planned (filter_map as_actor ks)) k no_class).references
    classes_fit [] h f k = none_fit all
    classes_fit (ASystem s ∷ ks) h f k = classes_fit ks h f k
    classes_fit (ASubsystem s ∷ ks) h f k = classes_fit ks (and_parts (references_have_classes names (ASubsystem s)) (list_all (references_have_classes names) ks) h).1 f k
    classes_fit (AnActor a ∷ ks) h f zero =
        references_fit (references_in (structure_of a)) (known_references (structure_of a) (and_parts (references_have_classes names (AnActor a)) (list_all (references_have_classes names) ks) h).0)
        (and_parts (imports_fit importable (table a)) (list_all (imports_fit importable) (map table (filter_map as_actor ks))) f).0
    classes_fit (AnActor a ∷ ks) h f (suc k) =
        classes_fit ks (and_parts (references_have_classes names (AnActor a)) (list_all (references_have_classes names) ks) h).1
        (and_parts (imports_fit importable (table a)) (list_all (imports_fit importable) (map table (filter_map as_actor ks))) f).1 k
    classes_fit (AProtocol p ∷ ks) h f k = classes_fit ks h f k
    classes_fit (AData d ∷ ks) h f k = classes_fit ks h f k

-- ---- the subsystem has fixed references alone

fixed_only : (rs : List ReferenceEntry) (n : ℕ) (r : ReferencePlan) → list_all (λ (x : ReferenceEntry). is_fixed x.kind) rs ≡ true → slice_get (map reference_plan rs) n ≡ Some r → is_fixed r.kind ≡ true
fixed_only [] n r all e = absurd cc
fixed_only (x ∷ xs) zero r all e =
    subst (λ (z : ReferencePlan). is_fixed z.kind ≡ true) (same_Some (reference_plan x) r e) (and_parts (is_fixed x.kind) (list_all (λ (y : ReferenceEntry). is_fixed y.kind) xs) all).0
fixed_only (x ∷ xs) (suc n) r all e = fixed_only xs n r (and_parts (is_fixed x.kind) (list_all (λ (y : ReferenceEntry). is_fixed y.kind) xs) all).1 e

not_both : (k : ReferenceKind) → is_imported k ≡ true → is_fixed k ≡ true → ⊥
not_both kinds.Fixed i f = absurd cc
not_both kinds.Optional i f = absurd cc
not_both kinds.Imported i f = absurd cc

module _ (all : List Container) (names : List (List ℕ)) where
  abbrev IsPlain : Option SubsystemTree → Type 0
  IsPlain o = FitReferences all (option_map_or (λ (s : SubsystemTree). subsystem_plan all (subsystem_container names s) s.items) o no_plan).references

  plain_fits : (s : SubsystemTree) → has_plain_references (subsystem_container names s) ≡ true → IsPlain (Some s)
  plain_fits s h n r e i =
      let c : Container = subsystem_container names s in
      absurd (not_both r.kind i (fixed_only c.references n r (and_parts (is_distinct c.reference_names) (list_all (λ (x : ReferenceEntry). is_fixed x.kind) c.references) h).1 e))

  named_fits : (name : List ℕ) (ss : List SubsystemTree) → list_all has_plain_references (map (subsystem_container names) ss) ≡ true → IsPlain (first_named name ss)
  named_fits name [] h = none_fit all
  named_fits name (s ∷ ss) h =
      let parts = and_parts (has_plain_references (subsystem_container names s)) (list_all has_plain_references (map (subsystem_container names) ss)) h in
      pick (same name s.name) (plain_fits s parts.0) (named_fits name ss parts.1)
    where
      pick : (b : Bool) → IsPlain (Some s) → IsPlain (first_named name ss) → IsPlain (cond b (Some s) (first_named name ss))
      pick true here more = here
      pick false here more = more

  pub wired_fits : (ss : List SubsystemTree) (name : Option (List ℕ)) → list_all has_plain_references (map (subsystem_container names) ss) ≡ true
      → IsPlain (option_map_or (λ n. first_named n ss) name None)
  wired_fits ss None h = none_fit all
  wired_fits ss (Some n) h = named_fits n ss h

-- ---- the slots of a model

module _ (m : ModelTree) (keeps : first_broken all_rules m ≡ None) where
  abbrev all_classes : List Container
  all_classes = (tables_of m).actors

  plain : list_all has_plain_references (map (subsystem_container (actor_names m)) (subsystems m)) ≡ true
  unfolding subsystem_references_are_plain subsystem_containers tables_with class_names
  plain = (model_rules m keeps).1

  top_fits : FitReferences all_classes (plan_of m).subsystem.references
  unfolding plan_of
  top_fits = wired_fits all_classes (actor_names m) (subsystems m) (wired_name (systems m)) plain

  known_all : list_all (references_have_classes (actor_names m)) m.classes ≡ true
  unfolding has_known_actors
  known_all = known m keeps

  imports_hold : list_all (imports_fit (importable_classes (tables_of m))) (tables_of m).actors ≡ true
  unfolding imported_classes_have_end_ports
  imports_hold =
      (and_parts (list_all (imports_fit (importable_classes (tables_of m))) (tables_of m).actors) (list_all (imports_fit (importable_classes (tables_of m))) (tables_of m).subsystems) (model_rules m keeps).2).0

  tables_are : all_classes ≡ map (actor_container (protocol_names m) (actor_names m)) (filter_map as_actor m.classes)
  unfolding tables_with class_names actor_containers
  tables_are = refl

  class_fits : (k : ℕ) → FitReferences all_classes (class_plan (plan_of m) k).references
  unfolding plan_of
  class_fits k =
      classes_fit all_classes (actor_names m) (names_few m (all_few m keeps)) (protocol_names m) m.classes known_all
      (ap (list_all (imports_fit (map can_be_imported all_classes))) (sym tables_are) ∙ imports_hold) k

  inside_fits : (o : Option Slot) → FitReferences all_classes (inside_of (plan_of m) o).references
  inside_fits None = none_fit all_classes
  inside_fits (Some x) = pick (is_imported x.kind)
    where
      pick : (b : Bool) → FitReferences all_classes (cond b no_class (class_plan (plan_of m) x.class)).references
      pick true = none_fit all_classes
      pick false = class_fits x.class

  container_fits : (c : ℕ) → FitReferences all_classes (container_class (plan_of m) (slots_in m) c).references
  container_fits zero = top_fits
  container_fits (suc s) = inside_fits (slice_get (slots_in m) s)

  -- the class of an imported slot can be imported
  pub slot_fits : (s : ℕ) (x : Slot) → slice_get (slots_in m) s ≡ Some x → is_imported x.kind ≡ true → CanBe all_classes x.class
  slot_fits s x e imported =
      let stands = (model_slots m (known m keeps) (finite m keeps) (layers m keeps) (all_few m keeps)).stands s x e in
      subst (CanBe all_classes) (sym stands.class)
      (container_fits (container_of x) x.reference stands.reference stands.named (ap is_imported (sym stands.kind) ∙ imported))
