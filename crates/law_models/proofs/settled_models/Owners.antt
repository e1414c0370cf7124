-- Owners of slots: each is a controller, and that of an imported slot is its container's. And each imported
-- slot has a container.
use Rattle.std.proofs.Common.{◌≡◌, ◌∙◌, ℕ, zero, suc, ◌+◌, ◌<◌, ◌≤◌, ◌==◌, Bool, true, false, cond, if◌then◌else◌, codes, List, [], ◌∷◌, length, map, Option, Some, None, slice_get, refl, sym, ap, subst, arith}
use Rattle.std.specs.Prelude.{option_and_then}
use Rattle.std.specs.List.{AllByRecursion as Each, list_all, enumerate_from, flat_map, range_with_len}
use Rattle.std.specs.Option.{option_map_or}
use Rattle.std.proofs.lemmas.Bool.{and_parts}
use Rattle.std.proofs.lemmas.Bool.Decides.{nat_tests}
use Rattle.std.proofs.lemmas.List.{length-map}
use Rattle.std.proofs.lemmas.Option.{same_Some}
use Rattle.name_tables.specs.distinct_names.Distinct.{is_distinct}
use Rattle.room_kinds.specs.declared.numbers.ControllerId.{ControllerId}
use Rattle.room_kinds.specs.declared.numbers.SlotId.{SlotId}
use Rattle.room_kinds.specs.declared.structure.ReferenceKind.{ReferenceKind}
use Rattle.room_kinds.specs.declared.structure.ReferenceKind.TheVariants as kinds
use Rattle.room_kinds.specs.Structure.{is_imported}
use Rattle.room_ast.specs.Trees.{ModelTree, SubsystemTree}
use Rattle.room_ast.specs.declared.model_parts.entries.ReferenceEntry.{ReferenceEntry}
use Rattle.room_ast.specs.model_parts.Classes.{actor_names}
use Rattle.room_wiring.specs.Slots.{slot_at}
use Rattle.room_wiring.specs.declared.slot.Slot.{Slot}
use Rattle.room_wiring.specs.declared.tables.Tables.{Tables}
use Rattle.check_tables.specs.class_tables.Containers.{subsystem_container, subsystem_containers, tables_of, tables_with, class_names}
use Rattle.check_tables.specs.declared.class_tables.container.Container.{Container}
use Rattle.check_mappings.specs.mapping_rules.Rules.{thread_names}
use Rattle.check_bindings.specs.structure_rules.Subsystems.{is_fixed, has_plain_references, subsystem_references_are_plain}
use Rattle.structure_check.specs.Rules.{first_broken}
use Rattle.structure_check.specs.List.{all_rules}
use Rattle.structure_check.specs.declared.flat_rule.FlatRule.TheVariants as rules
use Rattle.structure_check.proofs.KeptRules.{rule_kept, all_few}
use Rattle.wiring_plan.specs.structure_plan.Parts.{reference_plan}
use Rattle.wiring_plan.specs.structure_plan.Plans.{subsystem_plan, no_plan, wired_subsystem, plan_of}
use Rattle.wiring_plan.specs.declared.structure_plan.plan.ReferencePlan.{ReferencePlan}
use Rattle.wiring_plan.specs.declared.structure_plan.plan.StructurePlan.{StructurePlan}
use Rattle.wiring_plan.specs.wiring_classes.Labels.{label_of}
use Rattle.wiring_slots.specs.declared.slot_tree.names.MappingPlan.{MappingPlan}
use Rattle.wiring_slots.specs.declared.slot_tree.names.ReferenceLabel.{ReferenceLabel}
use Rattle.wiring_slots.specs.declared.slot_tree.names.SlotNames.{SlotNames}
use Rattle.wiring_slots.specs.slot_tree.Orders.{in_order}
use Rattle.wiring_slots.specs.slot_tree.Owners.{trails_at}
use Rattle.wiring_slots.specs.slot_tree.Slots.{owner_of, pending_at, slots_of_reference, slots_of_references, above_in, labels_of_class, references_of_class, inside, subtree, top, top_slots, slots_of}
use Rattle.wiring_slots.specs.slot_names.Names.{controllers_of, wired_names, wired_of}
use Rattle.wiring_slots.specs.model_slots.Answers.{slots_in}
use Rattle.wiring_places.specs.place_rules.Parts.{container_of_parent, container_class}
use Rattle.wiring_joins.specs.place_faces.SlotsOf.{StandsFor}
use Rattle.binding_expand.proofs.Kept.{known, finite, layers}
use Rattle.binding_expand.proofs.pair_laws.Models.{model_slots}
use Rattle.binding_expand.specs.Wirings.{IsWiringOf}
use Rattle.binding_expand.specs.Faults.{HasNoFault}
use Rattle.actor_duties.specs.Words.{is_imported_kind, is_imported as is_imported_slot, container_number, container_of, owner_of as owner_in}
use Rattle.law_agreement.specs.Imports.{OwnersAreThere, PlacesAreLocal}
use Rattle.law_agreement.specs.Held.{PlacesAreContained}
use Rattle.law_models.proofs.settled_models.Types.{Above, Pending}
use Rattle.law_models.proofs.settled_models.Trails.{Stand, all_stand, stand_both, number_above}
use Rattle.law_models.proofs.settled_models.Kept.{wired_all, planned_here}
use Rattle.law_models.proofs.settled_models.Wired.{wiring_consistent}
use Rattle.law_models.proofs.class_laws.Charts.{each_both}

-- ---- each slot's owner is a controller

controllers_some : (threads : List (List ℕ)) → 1 ≤ length (controllers_of threads)
controllers_some threads = go (length threads == 0) refl
  where
    go : (b : Bool) → (length threads == 0) ≡ b → 1 ≤ length (if b then codes "default" ∷ [] else map label_of threads)
    go true e = omega arith
    go false e =
        let long = length-map threads label_of in
        let some : 1 ≤ length threads = grind (arith, nat_tests) in
        omega (arith, long, some)

model_controllers : (m : ModelTree) → 1 ≤ length (wired_names m).controllers
unfolding wired_names
model_controllers m = controllers_some (thread_names (wired_of m).items)

pub owners_there : (m : ModelTree) (t : Tables) → first_broken all_rules m ≡ None → IsWiringOf m t → HasNoFault m → OwnersAreThere t
unfolding owner_in
owners_there m t keeps wiring flawless s = go (slot_at t s) refl
  where
    go : (o : Option Slot) → slot_at t s ≡ o → option_map_or (λ (x : Slot). x.owner.0) o 0 < length t.controllers
    go None e = let some = model_controllers m in let same = ap length wiring.controllers in omega (arith, some, same)
    go (Some x) e = (wiring_consistent m t wiring keeps flawless).owners_known s x e

-- ---- an imported slot is its container's owner's

-- where this is an imported slot, its container has the same owner
abbrev Local : Tables → Slot → Type 0
Local t x = is_imported_kind x.kind ≡ true → (c : ℕ) → container_number x ≡ Some c → x.owner.0 ≡ owner_in t c

-- what stands above has this owner
abbrev Owned : Tables → Above → Type 0
Owned t above = (c : ℕ) → number_above above ≡ Some c → above.owner.0 ≡ owner_in t c

imported_kind : (k : ReferenceKind) → is_imported_kind k ≡ true → k ≡ kinds.Imported
imported_kind kinds.Fixed h = absurd cc
imported_kind kinds.Optional h = absurd cc
imported_kind kinds.Imported h = refl

module _ (t : Tables) (plan : StructurePlan) (names : SlotNames) (mappings : List MappingPlan) where
  abbrev IsLocal : Pending → Type 0
  IsLocal p = Local t p.slot

  module _ (above : Above) (labels : List ReferenceLabel) (owned : Owned t above) where
    one_local : (n : ℕ) (r : ReferencePlan) (i : ℕ) → IsLocal (pending_at mappings above labels n r i)
    unfolding pending_at
    one_local n r i imported c is =
        let kept : owner_of mappings above.owner r.kind (trails_at mappings n i above.trails) ≡ above.owner =
        ap (λ k. owner_of mappings above.owner k (trails_at mappings n i above.trails)) (imported_kind r.kind imported) in
        ap (λ (o : ControllerId). o.0) kept ∙ owned c is

    indexes_local : (n : ℕ) (r : ReferencePlan) (i k : ℕ) → Each IsLocal (map (pending_at mappings above labels n r) (range_with_len i k))
    indexes_local n r i zero = tt
    indexes_local n r i (suc k) = (one_local n r i, indexes_local n r (i + 1) k)

    references_local : (j : ℕ) (rs : List ReferencePlan) → Each IsLocal (flat_map (slots_of_reference mappings above labels) (enumerate_from j rs))
    references_local j [] = tt
    references_local j (r ∷ rs) =
        each_both IsLocal (slots_of_reference mappings above labels (j, r)) (flat_map (slots_of_reference mappings above labels) (enumerate_from (j + 1) rs))
        (indexes_local j r 0 r.count) (references_local (j + 1) rs)

    all_local : (rs : List ReferencePlan) → Each IsLocal (slots_of_references mappings above labels rs)
    unfolding slots_of_references
    all_local rs = references_local 0 rs

  inside_local : (d n : ℕ) (p : Pending) → slot_at t n ≡ Some p.slot → Each IsLocal (inside plan names mappings d n p)
  unfolding owner_in
  inside_local d n p at = pick (is_imported p.slot.kind)
    where
      owned : Owned t (above_in d n p)
      owned c is = subst (λ k. p.slot.owner.0 ≡ option_map_or (λ (x : Slot). x.owner.0) (slot_at t k) 0) (same_Some n c is) (ap (λ (o : Option Slot). option_map_or (λ (x : Slot). x.owner.0) o 0) (sym at))

      pick : (b : Bool) → Each IsLocal (cond b [] (slots_of_references mappings (above_in d n p) (labels_of_class names p.slot.class) (references_of_class plan p.slot.class)))
      pick true = tt
      pick false = all_local (above_in d n p) (labels_of_class names p.slot.class) owned (references_of_class plan p.slot.class)

  order_local : (make : ℕ → Pending → List Slot) → ((n : ℕ) (p : Pending) → IsLocal p → Stand t n (make n p) → Each (Local t) (make n p))
      → (n : ℕ) (ps : List Pending) → Each IsLocal ps → Stand t n (in_order make n ps) → Each (Local t) (in_order make n ps)
  order_local make one n [] h at = tt
  order_local make one n (p ∷ ps) h at =
      let next = n + length (make n p) in
      let split = stand_both t n (make n p) (in_order make next ps) at in
      each_both (Local t) (make n p) (in_order make next ps) (one n p h.0 split.0) (order_local make one next ps h.1 split.1)

  subtree_local : (d n : ℕ) (p : Pending) → IsLocal p → Stand t n (subtree plan names mappings d n p) → Each (Local t) (subtree plan names mappings d n p)
  subtree_local zero n p h at = (h, tt)
  subtree_local (suc d) n p h at =
      (h, order_local (subtree plan names mappings d) (λ k q w s. subtree_local d k q w s) (n + 1) (inside plan names mappings d n p) (inside_local d n p at.0) at.1)

  module _ (same : t.slots ≡ slots_of plan names mappings) where
    slots_local : Each (Local t) t.slots
    unfolding slots_of
    slots_local =
        subst (Each (Local t)) (sym same)
        (order_local (subtree plan names mappings (length plan.classes)) (λ n p w s. subtree_local (length plan.classes) n p w s) 0 (top_slots plan names mappings)
        (all_local (top plan mappings) names.subsystem (λ c is. absurd cc) plan.subsystem.references)
        (all_stand t 0 (slots_of plan names mappings) (λ i. subst (λ k. slot_at t k ≡ slice_get (slots_of plan names mappings) i) (omega arith) (ap (λ l. slice_get l i) same))))

    local_at : (xs : List Slot) (i : ℕ) (x : Slot) → Each (Local t) xs → slice_get xs i ≡ Some x → Local t x
    local_at [] i x h e = absurd cc
    local_at (y ∷ ys) zero x h e = subst (Local t) (same_Some y x e) h.0
    local_at (y ∷ ys) (suc i) x h e = local_at ys i x h.1 e

    tree_local : PlacesAreLocal t
    unfolding is_imported_slot container_of owner_in
    tree_local s c = by_slot (slot_at t s) refl
      where
        by_slot : (o : Option Slot) → slot_at t s ≡ o → is_imported_slot t s ≡ true → container_of t s ≡ Some c → owner_in t s ≡ owner_in t c
        by_slot None at imported is =
            let none : false ≡ true = ap (λ (o : Option Slot). option_map_or (λ (x : Slot). is_imported_kind x.kind) o false) (sym at) ∙ imported in
            absurd cc
        by_slot (Some x) at imported is =
            ap (λ (o : Option Slot). option_map_or (λ (z : Slot). z.owner.0) o 0) at
            ∙ local_at t.slots s x slots_local at
            (ap (λ (o : Option Slot). option_map_or (λ (z : Slot). is_imported_kind z.kind) o false) (sym at) ∙ imported)
            c
            (ap (option_and_then container_number) (sym at) ∙ is)

pub places_local : (m : ModelTree) (t : Tables) → t.slots ≡ slots_in m → PlacesAreLocal t
unfolding slots_in
places_local m t slots = tree_local t (plan_of m) (wired_names m).slots (wired_names m).mappings slots

-- ---- an imported slot has a container

fixed_only : (rs : List ReferenceEntry) (n : ℕ) (r : ReferencePlan) → list_all (λ (x : ReferenceEntry). is_fixed x.kind) rs ≡ true → slice_get (map reference_plan rs) n ≡ Some r → is_fixed r.kind ≡ true
fixed_only [] n r all e = absurd cc
fixed_only (x ∷ xs) zero r all e =
    subst (λ (z : ReferencePlan). is_fixed z.kind ≡ true) (same_Some (reference_plan x) r e) (and_parts (is_fixed x.kind) (list_all (λ (y : ReferenceEntry). is_fixed y.kind) xs) all).0
fixed_only (x ∷ xs) (suc n) r all e = fixed_only xs n r (and_parts (is_fixed x.kind) (list_all (λ (y : ReferenceEntry). is_fixed y.kind) xs) all).1 e

module _ (m : ModelTree) (keeps : first_broken all_rules m ≡ None) where
  plain_here : (s : SubsystemTree) → wired_subsystem m ≡ Some s → has_plain_references (subsystem_container (actor_names m) s) ≡ true
  unfolding subsystem_references_are_plain subsystem_containers tables_with class_names
  plain_here s e = wired_all m (all_few m keeps) has_plain_references (subsystem_container (actor_names m)) s (rule_kept m keeps rules.PlainSubsystems) _ e

  -- where no subsystem is wired there are no references
  none_wired : (n : ℕ) (r : ReferencePlan) → wired_subsystem m ≡ None → slice_get (plan_of m).subsystem.references n ≡ Some r → is_fixed r.kind ≡ true
  unfolding plan_of
  none_wired n r w e =
      let empty : slice_get no_plan.references n ≡ Some r =
      ap (λ (o : Option SubsystemTree). slice_get (option_map_or (λ (x : SubsystemTree). subsystem_plan (tables_of m).actors (subsystem_container (actor_names m) x) x.items) o no_plan).references n) (sym w) ∙ e in
      absurd cc

  -- the references of the subsystem are fixed
  top_fixed : (n : ℕ) (r : ReferencePlan) → slice_get (plan_of m).subsystem.references n ≡ Some r → is_fixed r.kind ≡ true
  top_fixed n r e = by_subsystem (wired_subsystem m) refl
    where
      by_subsystem : (o : Option SubsystemTree) → wired_subsystem m ≡ o → is_fixed r.kind ≡ true
      by_subsystem None w = none_wired n r w e
      by_subsystem (Some s) w =
          let c : Container = subsystem_container (actor_names m) s in
          fixed_only c.references n r (and_parts (is_distinct c.reference_names) (list_all (λ (x : ReferenceEntry). is_fixed x.kind) c.references) (plain_here s w)).1
          (ap (λ rs. slice_get rs n) (sym (planned_here m (all_few m keeps) s w)) ∙ e)

  not_fixed : (k : ReferenceKind) → is_imported_kind k ≡ true → is_fixed k ≡ true → ⊥
  not_fixed kinds.Fixed i f = absurd cc
  not_fixed kinds.Optional i f = absurd cc
  not_fixed kinds.Imported i f = absurd cc

  contained : (x : Slot) → StandsFor (plan_of m) (slots_in m) x → is_imported_kind x.kind ≡ true → (c : ℕ) × (container_number x ≡ Some c)
  contained x stands imported = by_parent x.parent refl
    where
      by_parent : (o : Option SlotId) → x.parent ≡ o → (c : ℕ) × (container_number x ≡ Some c)
      by_parent (Some c) e = (c.0, ap (λ (o : Option SlotId). option_map_or (λ (z : SlotId). Some z.0) o None) e)
      by_parent None e =
          let named : slice_get (plan_of m).subsystem.references x.reference ≡ Some stands.reference =
          ap (λ (o : Option SlotId). slice_get (container_class (plan_of m) (slots_in m) (container_of_parent o)).references x.reference) (sym e) ∙ stands.named in
          absurd (not_fixed stands.reference.kind (ap is_imported_kind (sym stands.kind) ∙ imported) (top_fixed x.reference stands.reference named))

  pub places_contained : (t : Tables) → t.slots ≡ slots_in m → PlacesAreContained t
  unfolding is_imported_slot container_of
  places_contained t slots s imported = by_slot (slot_at t s) refl imported
    where
      by_slot : (o : Option Slot) → slot_at t s ≡ o → option_map_or (λ (x : Slot). is_imported_kind x.kind) o false ≡ true → (c : ℕ) × (container_of t s ≡ Some c)
      by_slot None at imported = absurd cc
      by_slot (Some x) at imported =
          let stands = (model_slots m (known m keeps) (finite m keeps) (layers m keeps) (all_few m keeps)).stands s x (ap (λ l. slice_get l s) (sym slots) ∙ at) in
          let c = contained x stands imported in
          (c.0, ap (option_and_then container_number) at ∙ c.1)
