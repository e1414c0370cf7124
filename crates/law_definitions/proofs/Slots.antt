-- The owners of the slots of a structure are those of the longest mapped paths.
use Rattle.std.proofs.Common.{◌≡◌, ◌∙◌, inr, ℕ, zero, suc, ◌+◌, Bool, true, false, cond, List, [], ◌∷◌, ◌++◌, length, map, refl, sym, ap, subst}
use Rattle.std.specs.List.{enumerate_from, flat_map, range_with_len}
use Rattle.std.proofs.lemmas.List.{map-append}
use Rattle.room_kinds.specs.Structure.{is_imported}
use Rattle.room_wiring.specs.declared.slot.Slot.{Slot}
use Rattle.wiring_plan.specs.declared.structure_plan.plan.ReferencePlan.{ReferencePlan}
use Rattle.wiring_plan.specs.declared.structure_plan.plan.StructurePlan.{StructurePlan}
use Rattle.wiring_slots.specs.declared.slot_tree.names.MappingPlan.{MappingPlan}
use Rattle.wiring_slots.specs.declared.slot_tree.names.ReferenceLabel.{ReferenceLabel}
use Rattle.wiring_slots.specs.declared.slot_tree.names.SlotNames.{SlotNames}
use Rattle.wiring_slots.specs.slot_tree.Orders.{in_order}
use Rattle.wiring_slots.specs.slot_tree.Owners.{trails_at, owner_at}
use Rattle.wiring_slots.specs.slot_tree.Slots.{pending_at, slots_of_reference, slots_of_references, above_in, labels_of_class, references_of_class, subtree, top, top_slots, slots_of}
use Rattle.law_definitions.specs.Owners.{Way, IsOwnerOf, Stand, steps_into, stands_below, stands_of, owning_way, AreOwned, SlotsAreOwned}
use Rattle.law_definitions.proofs.Owners.{trails_for, all_kept, all_begin, owned_next, nowhere}

abbrev Given : {A B C : Type 0} → (A → B → C) → Type 0
Given {A} {B} {C} f = C

abbrev Listed : {A B C D : Type 0} → (A → B → C → List D) → Type 0
Listed {A} {B} {C} {D} f = D

-- what slots have from their container, and a slot that waits
abbrev Above : Type 0
Above = Given top

abbrev Pending : Type 0
Pending = Listed top_slots

-- ---- lists

owned_both : (mappings : List MappingPlan) (xs ys : List Slot) (ss ts : List Stand) → AreOwned mappings xs ss → AreOwned mappings ys ts → AreOwned mappings (xs ++ ys) (ss ++ ts)
owned_both mappings [] ys [] ts h k = k
owned_both mappings [] ys (s ∷ ss) ts h k = absurd h
owned_both mappings (x ∷ xs) ys [] ts h k = absurd h
owned_both mappings (x ∷ xs) ys (s ∷ ss) ts h k = (h.0, owned_both mappings xs ys ss ts h.1 k)

map_twice : {X Y Z : Type 0} (f : X → Y) (g : Y → Z) (xs : List X) → map g (map f xs) ≡ map (λ x. g (f x)) xs
map_twice f g [] = refl
map_twice f g (x ∷ xs) = ap (λ ys. g (f x) ∷ ys) (map_twice f g xs)

module _ (mappings : List MappingPlan) where
  -- the slot that waits behind a step
  behind : Above → List ReferenceLabel → (ℕ × ℕ) × ReferencePlan → Pending
  behind above labels c = pending_at mappings above labels c.0.0 c.1 c.0.1

  -- the slots directly inside a container are those behind the steps into it
  steps_from : (above : Above) (labels : List ReferenceLabel) (refs : List (ℕ × ReferencePlan))
      → flat_map (slots_of_reference mappings above labels) refs
      ≡ map (behind above labels) (flat_map (λ (r : ℕ × ReferencePlan). map (λ i. ((r.0, i), r.1)) (range_with_len 0 r.1.count)) refs)
  unfolding behind
  steps_from above labels [] = refl
  steps_from above labels (r ∷ refs) =
      ap (λ ps. slots_of_reference mappings above labels r ++ ps) (steps_from above labels refs)
      ∙ ap (λ ps. ps ++ map (behind above labels) (flat_map (λ (q : ℕ × ReferencePlan). map (λ i. ((q.0, i), q.1)) (range_with_len 0 q.1.count)) refs))
      (sym (map_twice (λ i. ((r.0, i), r.1)) (behind above labels) (range_with_len 0 r.1.count)))
      ∙ sym (map-append (behind above labels) (map (λ i. ((r.0, i), r.1)) (range_with_len 0 r.1.count))
      (flat_map (λ (q : ℕ × ReferencePlan). map (λ i. ((q.0, i), q.1)) (range_with_len 0 q.1.count)) refs))

  steps_are : (above : Above) (labels : List ReferenceLabel) (references : List ReferencePlan)
      → slots_of_references mappings above labels references ≡ map (behind above labels) (steps_into references)
  unfolding slots_of_references
  steps_are above labels references = steps_from above labels (enumerate_from 0 references)

  -- a slot that waits stands at the end of a way
  record IsAt (container : Way) (c : (ℕ × ℕ) × ReferencePlan) (p : Pending) : Type 0 where
    class : p.slot.class ≡ c.1.class
    kind : p.slot.kind ≡ c.1.kind
    trails : p.trails ≡ trails_for mappings (container ++ c.0 ∷ []) 0 (length mappings)
    owner : IsOwnerOf mappings (owning_way (record { way = container ++ c.0 ∷ []; container = container; kind = c.1.kind })) p.slot.owner

  behind_at : (container : Way) (above : Above) (labels : List ReferenceLabel) (c : (ℕ × ℕ) × ReferencePlan) → above.trails ≡ trails_for mappings container 0 (length mappings)
      → IsOwnerOf mappings container above.owner → IsAt container c (behind above labels c)
  unfolding behind pending_at
  behind_at container above labels c kept owned =
      let reached : trails_at mappings c.0.0 c.0.1 above.trails ≡ trails_for mappings (container ++ c.0 ∷ []) 0 (length mappings) =
      ap (trails_at mappings c.0.0 c.0.1) kept ∙ all_kept mappings container c.0 0 (length mappings) in
      record { class = refl; kind = refl; trails = reached; owner = by_kind reached (is_imported c.1.kind) }
    where
      by_kind : trails_at mappings c.0.0 c.0.1 above.trails ≡ trails_for mappings (container ++ c.0 ∷ []) 0 (length mappings) → (b : Bool)
          → IsOwnerOf mappings (cond b container (container ++ c.0 ∷ [])) (cond b above.owner (owner_at mappings above.owner (trails_at mappings c.0.0 c.0.1 above.trails)))
      by_kind reached true = owned
      by_kind reached false =
          subst (λ ts. IsOwnerOf mappings (container ++ c.0 ∷ []) (owner_at mappings above.owner ts)) (sym reached) (owned_next mappings container c.0 above.owner owned)

  module _ (plan : StructurePlan) (names : SlotNames) where
    -- what is made of the steps into a container, one behind another
    in_turn : (depth : ℕ) (container : Way) (above : Above) (labels : List ReferenceLabel)
        → ((number : ℕ) (c : (ℕ × ℕ) × ReferencePlan) → AreOwned mappings (subtree plan names mappings depth number (behind above labels c)) (stands_below plan depth container c))
        → (first : ℕ) (cs : List ((ℕ × ℕ) × ReferencePlan))
        → AreOwned mappings (in_order (subtree plan names mappings depth) first (map (behind above labels) cs)) (flat_map (stands_below plan depth container) cs)
    in_turn depth container above labels each first [] = tt
    in_turn depth container above labels each first (c ∷ cs) =
        let made = subtree plan names mappings depth first (behind above labels c) in
        owned_both mappings made (in_order (subtree plan names mappings depth) (first + length made) (map (behind above labels) cs))
        (stands_below plan depth container c) (flat_map (stands_below plan depth container) cs)
        (each first c) (in_turn depth container above labels each (first + length made) cs)

    below : (depth number : ℕ) (container : Way) (c : (ℕ × ℕ) × ReferencePlan) (p : Pending) → IsAt container c p
        → AreOwned mappings (subtree plan names mappings depth number p) (stands_below plan depth container c)
    below zero number container c p at = (at.owner, tt)
    below (suc depth) number container c p at = (
      at.owner,
      by_kind (is_imported p.slot.kind) (is_imported c.1.kind) (ap is_imported at.kind) refl
          (λ k q place x. below depth k (container ++ c.0 ∷ []) q place x),
    )
      where
        by_kind : (b d : Bool) → b ≡ d → is_imported c.1.kind ≡ d
            → ((k : ℕ) (q : (ℕ × ℕ) × ReferencePlan) (place : Pending) → IsAt (container ++ c.0 ∷ []) q place
            → AreOwned mappings (subtree plan names mappings depth k place) (stands_below plan depth (container ++ c.0 ∷ []) q))
            → AreOwned mappings
            (in_order (subtree plan names mappings depth) (number + 1)
            (cond b [] (slots_of_references mappings (above_in depth number p) (labels_of_class names p.slot.class) (references_of_class plan p.slot.class))))
            (cond d [] (flat_map (stands_below plan depth (container ++ c.0 ∷ [])) (steps_into (references_of_class plan c.1.class))))
        by_kind true true same is deeper = tt
        by_kind true false same is deeper = absurd cc
        by_kind false true same is deeper = absurd cc
        by_kind false false same is deeper =
            let way = container ++ c.0 ∷ [] in
            let above = above_in depth number p in
            let labels = labels_of_class names p.slot.class in
            let owned : IsOwnerOf mappings way p.slot.owner = subst (λ b. IsOwnerOf mappings (cond b container way) p.slot.owner) is at.owner in
            subst (λ k. AreOwned mappings (in_order (subtree plan names mappings depth) (number + 1) (slots_of_references mappings above labels (references_of_class plan p.slot.class)))
            (flat_map (stands_below plan depth way) (steps_into (references_of_class plan k)))) at.class
            (subst (λ ps. AreOwned mappings (in_order (subtree plan names mappings depth) (number + 1) ps) (flat_map (stands_below plan depth way) (steps_into (references_of_class plan p.slot.class))))
            (sym (steps_are above labels (references_of_class plan p.slot.class)))
            (in_turn depth way above labels (λ k q. deeper k q (behind above labels q) (behind_at way above labels q at.trails owned)) (number + 1) (steps_into (references_of_class plan p.slot.class))))

    pub all_owned : AreOwned mappings (slots_of plan names mappings) (stands_of plan)
    unfolding slots_of
    all_owned =
        let above = top plan mappings in
        let none : IsOwnerOf mappings [] (record { 0 = 0 }) = inr (nowhere mappings, refl) in
        subst (λ ps. AreOwned mappings (in_order (subtree plan names mappings (length plan.classes)) 0 ps) (stands_of plan))
        (sym (steps_are above names.subsystem plan.subsystem.references))
        (in_turn (length plan.classes) [] above names.subsystem
        (λ k c. below (length plan.classes) k [] c (behind above names.subsystem c) (behind_at [] above names.subsystem c (all_begin mappings 0 (length mappings)) none))
        0 (steps_into plan.subsystem.references))

pub slots_owned : SlotsAreOwned
slots_owned plan names mappings = all_owned mappings plan names
