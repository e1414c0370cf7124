-- How many slots a structure has is told by the structure alone.
use Rattle.std.proofs.Common.{◌≡◌, ℕ, zero, suc, ◌+◌, Bool, true, false, cond, List, [], ◌∷◌, ◌++◌, length, map, Option, Some, None, refl, sym, ◌∙◌, ap, subst, arith, length-append}
use Rattle.std.specs.Prelude.{nat_le}
use Rattle.std.specs.List.{enumerate_from, flat_map, range_with_len}
use Rattle.room_kinds.specs.Structure.{is_imported}
use Rattle.room_wiring.specs.declared.slot.Slot.{Slot}
use Rattle.wiring_plan.specs.declared.structure_plan.plan.ReferencePlan.{ReferencePlan}
use Rattle.wiring_plan.specs.declared.structure_plan.plan.StructurePlan.{StructurePlan}
use Rattle.wiring_slots.specs.declared.slot_tree.names.MappingPlan.{MappingPlan}
use Rattle.wiring_slots.specs.declared.slot_tree.names.ReferenceLabel.{ReferenceLabel}
use Rattle.wiring_slots.specs.declared.slot_tree.names.SlotNames.{SlotNames}
use Rattle.wiring_slots.specs.slot_tree.Orders.{in_order}
use Rattle.wiring_slots.specs.slot_tree.Placing.{at_most, TellsFew}
use Rattle.wiring_slots.specs.slot_tree.Slots.{Pending, Above, pending_at, slots_of_reference, slots_of_references, above_in, labels_of_class, references_of_class, inside, subtree, top, top_slots, slots_of}

-- two slots that wait of one kind and one class
record Alike (p q : Pending) : Type 0 where
  kind : p.slot.kind ≡ q.slot.kind
  class : p.slot.class ≡ q.slot.class

abbrev AllAlike : List Pending → List Pending → Type 0
AllAlike [] [] = Unit {0}
AllAlike [] (q ∷ qs) = ⊥
AllAlike (p ∷ ps) [] = ⊥
AllAlike (p ∷ ps) (q ∷ qs) = Alike p q × AllAlike ps qs

appended : (ps qs us vs : List Pending) → AllAlike ps qs → AllAlike us vs → AllAlike (ps ++ us) (qs ++ vs)
appended [] [] us vs h k = k
appended [] (q ∷ qs) us vs h k = absurd h
appended (p ∷ ps) [] us vs h k = absurd h
appended (p ∷ ps) (q ∷ qs) us vs h k = (h.0, appended ps qs us vs h.1 k)

module _ (ms ns : List MappingPlan) (a b : Above) (ls ks : List ReferenceLabel) where
  one : (number : ℕ) (r : ReferencePlan) (i : ℕ) → Alike (pending_at ms a ls number r i) (pending_at ns b ks number r i)
  unfolding pending_at
  one number r i = record { kind = refl; class = refl }

  indexes : (number : ℕ) (r : ReferencePlan) (is : List ℕ) → AllAlike (map (pending_at ms a ls number r) is) (map (pending_at ns b ks number r) is)
  indexes number r [] = tt
  indexes number r (i ∷ is) = (one number r i, indexes number r is)

  references : (rs : List (ℕ × ReferencePlan)) → AllAlike (flat_map (slots_of_reference ms a ls) rs) (flat_map (slots_of_reference ns b ks) rs)
  references [] = tt
  references (r ∷ rs) =
      appended (slots_of_reference ms a ls r) (slots_of_reference ns b ks r) (flat_map (slots_of_reference ms a ls) rs) (flat_map (slots_of_reference ns b ks) rs) (indexes r.0 r.1 (range_with_len 0 r.1.count)) (references rs)

  all_references : (rs : List ReferencePlan) → AllAlike (slots_of_references ms a ls rs) (slots_of_references ns b ks rs)
  unfolding slots_of_references
  all_references rs = references (enumerate_from 0 rs)

module _ (plan : StructurePlan) (names others : SlotNames) (ms ns : List MappingPlan) where
  inside_alike : (depth i j : ℕ) (p q : Pending) → Alike p q → AllAlike (inside plan names ms depth i p) (inside plan others ns depth j q)
  inside_alike depth i j p q h =
      by (is_imported p.slot.kind) (is_imported q.slot.kind) (ap is_imported h.kind) p.slot.class q.slot.class h.class
    where
      by : (b c : Bool) → b ≡ c → (k l : ℕ) → k ≡ l
          → AllAlike (cond b [] (slots_of_references ms (above_in depth i p) (labels_of_class names p.slot.class) (references_of_class plan k))) (cond c [] (slots_of_references ns (above_in depth j q) (labels_of_class others q.slot.class) (references_of_class plan l)))
      by true true e k l s = tt
      by true false e k l s = absurd cc
      by false true e k l s = absurd cc
      by false false e k l s =
          subst (λ x. AllAlike (slots_of_references ms (above_in depth i p) (labels_of_class names p.slot.class) (references_of_class plan k)) (slots_of_references ns (above_in depth j q) (labels_of_class others q.slot.class) (references_of_class plan x))) s
          (all_references ms ns (above_in depth i p) (above_in depth j q) (labels_of_class names p.slot.class) (labels_of_class others q.slot.class) (references_of_class plan k))

  ordered : (make other : ℕ → Pending → List Slot) → ((i j : ℕ) (p q : Pending) → Alike p q → length (make i p) ≡ length (other j q)) → (i j : ℕ) (ps qs : List Pending) → AllAlike ps qs → length (in_order make i ps) ≡ length (in_order other j qs)
  ordered make other same i j [] [] h = refl
  ordered make other same i j [] (q ∷ qs) h = absurd h
  ordered make other same i j (p ∷ ps) [] h = absurd h
  ordered make other same i j (p ∷ ps) (q ∷ qs) h =
      let first : length (make i p) ≡ length (other j q) = same i j p q h.0 in
      let rest : length (in_order make (i + length (make i p)) ps) ≡ length (in_order other (j + length (other j q)) qs) = ordered make other same (i + length (make i p)) (j + length (other j q)) ps qs h.1 in
      omega (arith, first, rest, length-append (make i p) (in_order make (i + length (make i p)) ps), length-append (other j q) (in_order other (j + length (other j q)) qs))

  subtrees : (depth i j : ℕ) (p q : Pending) → Alike p q → length (subtree plan names ms depth i p) ≡ length (subtree plan others ns depth j q)
  subtrees zero i j p q h = refl
  subtrees (suc depth) i j p q h =
      ap suc
      (ordered (subtree plan names ms depth) (subtree plan others ns depth) (λ k l x y s. subtrees depth k l x y s) (i + 1) (j + 1) (inside plan names ms depth i p) (inside plan others ns depth j q) (inside_alike depth i j p q h))

  same_count : length (slots_of plan names ms) ≡ length (slots_of plan others ns)
  unfolding slots_of
  same_count =
      ordered (subtree plan names ms (length plan.classes)) (subtree plan others ns (length plan.classes)) (λ k l x y s. subtrees (length plan.classes) k l x y s) 0 0 (top_slots plan names ms) (top_slots plan others ns)
      (all_references ms ns (top plan ms) (top plan ns) names.subsystem others.subsystem plan.subsystem.references)

module _ (plan : StructurePlan) (names : SlotNames) (mappings : List MappingPlan) (found : Option (List Slot)) (h : found ≡ at_most 4096 (slots_of plan names mappings)) where
  told : (b : Bool) → b ≡ nat_le (length (slots_of plan names mappings)) 4096 → TellsFew plan b
  told b e others ns = e ∙ ap (λ n. nat_le n 4096) (same_count plan names others mappings ns)

  pub few_found : (ss : List Slot) → found ≡ Some ss → TellsFew plan true
  few_found ss some = told true (go (nat_le (length (slots_of plan names mappings)) 4096) refl (sym some ∙ h))
    where
      go : (b : Bool) → nat_le (length (slots_of plan names mappings)) 4096 ≡ b → Some ss ≡ cond b (Some (slots_of plan names mappings)) None → true ≡ nat_le (length (slots_of plan names mappings)) 4096
      go true e f = sym e
      go false e f = absurd cc

  pub none_found : found ≡ None → TellsFew plan false
  none_found none = told false (go (nat_le (length (slots_of plan names mappings)) 4096) refl (sym none ∙ h))
    where
      go : (b : Bool) → nat_le (length (slots_of plan names mappings)) 4096 ≡ b → None ≡ cond b (Some (slots_of plan names mappings)) None → false ≡ nat_le (length (slots_of plan names mappings)) 4096
      go true e f = absurd cc
      go false e f = sym e
