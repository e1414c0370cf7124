-- The slots of a structure that names only what there is have classes and owners that there are.
use Rattle.std.proofs.Common.{◌≡◌, ℕ, zero, suc, ◌+◌, ◌<◌, Bool, true, false, cond, List, [], ◌∷◌, length, map, Option, Some, None, refl, subst}
use Rattle.std.specs.Prelude.{All, slice_get, unwrap_or, option_and_then, ◌==◌}
use Rattle.std.specs.List.{enumerate_from, flat_map, range_with_len}
use Rattle.std.specs.Option.{option_map_or}
use Rattle.std.proofs.lemmas.List.Elements.{All-nil, All-cons, All-head, All-tail, All-append}
use Rattle.room_kinds.specs.declared.numbers.ControllerId.{ControllerId}
use Rattle.room_kinds.specs.declared.structure.ReferenceKind.{ReferenceKind}
use Rattle.wiring_plan.specs.declared.structure_plan.plan.ClassPlan.{ClassPlan}
use Rattle.wiring_plan.specs.declared.structure_plan.plan.ReferencePlan.{ReferencePlan}
use Rattle.wiring_plan.specs.declared.structure_plan.plan.StructurePlan.{StructurePlan}
use Rattle.wiring_slots.specs.declared.slot_tree.names.MappingPlan.{MappingPlan}
use Rattle.wiring_slots.specs.declared.slot_tree.names.ReferenceLabel.{ReferenceLabel}
use Rattle.wiring_slots.specs.declared.slot_tree.names.SlotNames.{SlotNames}
use Rattle.wiring_slots.specs.declared.slot_tree.owners.Trail.{Trail}
use Rattle.wiring_slots.specs.slot_tree.Owners.{mapped_at, owner_at, trails_at}
use Rattle.wiring_slots.specs.slot_tree.Orders.{in_order}
use Rattle.room_kinds.specs.Structure.{is_imported}
use Rattle.wiring_slots.specs.slot_tree.Slots.{Pending, Above, owner_of, pending_at, slots_of_reference, slots_of_references, above_in, labels_of_class, references_of_class, inside, subtree, top, top_slots, slots_of}
use Rattle.wiring_slots.specs.slot_tree.Known.{NamesClasses, NamesKnown, IsKnownSlot}

all_in_order : {X S : Type 0} (P : X → Type 0) (Q : S → Type 0) (f : ℕ → X → List S) → ((n : ℕ) (x : X) → P x → All Q (f n x)) → (n : ℕ) (xs : List X) → All P xs → All Q (in_order f n xs)
all_in_order P Q f step n [] h = All-nil Q
all_in_order P Q f step n (x ∷ xs) h =
    All-append Q (f n x) (in_order f (n + length (f n x)) xs) (step n x (All-head P x xs h)) (all_in_order P Q f step (n + length (f n x)) xs (All-tail P x xs h))

-- the item at a place
pub at_place : {X : Type 0} (P : X → Type 0) (xs : List X) (i : ℕ) (x : X) → All P xs → slice_get xs i ≡ Some x → P x
at_place P [] i x h e = absurd cc
at_place P (y ∷ ys) zero x h e = let is : y ≡ x = cc in subst P is (All-head P y ys h)
at_place P (y ∷ ys) (suc i) x h e = at_place P ys i x (All-tail P y ys h) e

module _ (n k : ℕ) (plan : StructurePlan) (names : SlotNames) (mappings : List MappingPlan) (known : NamesKnown n k plan mappings) where
  -- what a trail leads to is a controller that there is
  mapped_known : (o : ControllerId) (t : Trail) → o.0 < k → (unwrap_or (mapped_at mappings t) o).0 < k
  mapped_known o t h = go (slice_get mappings t.mapping) refl
    where
      pick : (m : MappingPlan) (b : Bool) → m.controller.0 < k → (unwrap_or (cond b (Some m.controller) None) o).0 < k
      pick m true lt = lt
      pick m false lt = h

      go : (found : Option MappingPlan) → slice_get mappings t.mapping ≡ found → (unwrap_or (option_and_then (λ (m : MappingPlan). cond (t.steps == length m.steps) (Some m.controller) None) found) o).0 < k
      go None e = h
      go (Some m) e = pick m (t.steps == length m.steps) (at_place (λ (x : MappingPlan). x.controller.0 < k) mappings t.mapping m known.mapped e)

  owner_known : (o : ControllerId) (ts : List Trail) → o.0 < k → (owner_at mappings o ts).0 < k
  owner_known o [] h = h
  owner_known o (t ∷ ts) h = owner_known (unwrap_or (mapped_at mappings t) o) ts (mapped_known o t h)

  kept_known : (o : ControllerId) (kind : ReferenceKind) (ts : List Trail) → o.0 < k → (owner_of mappings o kind ts).0 < k
  kept_known o kind ts h = pick (is_imported kind)
    where
      pick : (b : Bool) → (cond b o (owner_at mappings o ts)).0 < k
      pick true = h
      pick false = owner_known o ts h

  abbrev KnownPending : Pending → Type 0
  KnownPending p = IsKnownSlot n k p.slot

  module _ (above : Above) (labels : List ReferenceLabel) (owned : above.owner.0 < k) where
    one_known : (r : ℕ × ReferencePlan) (i : ℕ) → r.1.class < n → KnownPending (pending_at mappings above labels r.0 r.1 i)
    unfolding pending_at
    one_known r i lt = record { class = lt; owner = kept_known above.owner r.1.kind (trails_at mappings r.0 i above.trails) owned }

    indexes_known : (r : ℕ × ReferencePlan) → r.1.class < n → (i c : ℕ) → All KnownPending (map (pending_at mappings above labels r.0 r.1) (range_with_len i c))
    indexes_known r lt i zero = All-nil KnownPending
    indexes_known r lt i (suc c) = All-cons KnownPending (pending_at mappings above labels r.0 r.1 i) (map (pending_at mappings above labels r.0 r.1) (range_with_len (i + 1) c)) (one_known r i lt) (indexes_known r lt (i + 1) c)

    references_known : (j : ℕ) (rs : List ReferencePlan) → All (λ (r : ReferencePlan). r.class < n) rs → All KnownPending (flat_map (slots_of_reference mappings above labels) (enumerate_from j rs))
    references_known j [] h = All-nil KnownPending
    references_known j (r ∷ rs) h =
        All-append KnownPending (slots_of_reference mappings above labels (j, r)) (flat_map (slots_of_reference mappings above labels) (enumerate_from (j + 1) rs))
        (indexes_known (j, r) (All-head (λ (x : ReferencePlan). x.class < n) r rs h) 0 r.count) (references_known (j + 1) rs (All-tail (λ (x : ReferencePlan). x.class < n) r rs h))

    children_known : (rs : List ReferencePlan) → All (λ (r : ReferencePlan). r.class < n) rs → All KnownPending (slots_of_references mappings above labels rs)
    unfolding slots_of_references
    children_known rs h = references_known 0 rs h

  class_known : (c : ℕ) → All (λ (r : ReferencePlan). r.class < n) (references_of_class plan c)
  class_known c = go (slice_get plan.classes c) refl
    where
      go : (found : Option ClassPlan) → slice_get plan.classes c ≡ found → All (λ (r : ReferencePlan). r.class < n) (option_map_or (λ (x : ClassPlan). x.references) found [])
      go None e = All-nil (λ (r : ReferencePlan). r.class < n)
      go (Some x) e = at_place (NamesClasses n) plan.classes c x known.classes e

  inside_known : (d number : ℕ) (p : Pending) → KnownPending p → All KnownPending (inside plan names mappings d number p)
  inside_known d number p h = pick (is_imported p.slot.kind)
    where
      pick : (b : Bool) → All KnownPending (cond b [] (slots_of_references mappings (above_in d number p) (labels_of_class names p.slot.class) (references_of_class plan p.slot.class)))
      pick true = All-nil KnownPending
      pick false = children_known (above_in d number p) (labels_of_class names p.slot.class) h.owner (references_of_class plan p.slot.class) (class_known p.slot.class)

  subtree_known : (d number : ℕ) (p : Pending) → KnownPending p → All (IsKnownSlot n k) (subtree plan names mappings d number p)
  subtree_known zero number p h = All-cons (IsKnownSlot n k) p.slot [] h (All-nil (IsKnownSlot n k))
  subtree_known (suc d) number p h =
      All-cons (IsKnownSlot n k) p.slot (in_order (subtree plan names mappings d) (number + 1) (inside plan names mappings d number p)) h
      (all_in_order KnownPending (IsKnownSlot n k) (subtree plan names mappings d) (λ i q g. subtree_known d i q g) (number + 1) (inside plan names mappings d number p) (inside_known d number p h))

  pub slots_known : All (IsKnownSlot n k) (slots_of plan names mappings)
  unfolding slots_of
  slots_known =
      all_in_order KnownPending (IsKnownSlot n k) (subtree plan names mappings (length plan.classes)) (λ i q g. subtree_known (length plan.classes) i q g) 0 (top_slots plan names mappings)
      (children_known (top plan mappings) names.subsystem known.some_controller plan.subsystem.references known.subsystem)
