-- The loop that places the slots that wait.
use Rattle.std.proofs.Common.{◌≡◌, ◌∙◌, ℕ, zero, suc, ◌+◌, ◌-◌, ◌<◌, ◌≤◌, Bool, true, false, cond, nat_le, List, [], ◌∷◌, ◌++◌, Some, None, length, append_assoc, append-nil, length-append, refl, sym, ap, arith}
use Rattle.std.proofs.lemmas.List.{length_push}
use Rattle.std.proofs.lemmas.Bool.Decides.{nat_tests}
use Rattle.room_wiring.specs.declared.slot.Slot.{Slot}
use Rattle.wiring_plan.specs.declared.structure_plan.plan.StructurePlan.{StructurePlan}
use Rattle.wiring_slots.specs.declared.slot_tree.names.MappingPlan.{MappingPlan}
use Rattle.wiring_slots.specs.declared.slot_tree.names.SlotNames.{SlotNames}
use Rattle.wiring_slots.specs.slot_tree.Slots.{Pending, inside, subtree, top, top_slots, slots_of}
use Rattle.wiring_slots.specs.slot_tree.Orders.{in_order}
use Rattle.wiring_slots.specs.slot_tree.Placing.{at_most, inside_to, inside_of, all_from, Placing}
use Rattle.wiring_slots.proofs.slot_tree.Orders.{in_order_append, in_order_long}
use Rattle.wiring_slots.proofs.slot_tree.Depths.{same_depth, inside_depth, children_depth}

pub within_most : (ss : List Slot) → length ss ≤ 4096 → Some ss ≡ at_most 4096 ss
within_most ss few = go (nat_le (length ss) 4096) refl
  where
    go : (b : Bool) → nat_le (length ss) 4096 ≡ b → Some ss ≡ cond b (Some ss) None
    go true e = refl
    go false e = absurd (grind (arith, nat_tests))

pub over_most : (ss : List Slot) → 4096 < length ss → None ≡ at_most 4096 ss
over_most ss many = go (nat_le (length ss) 4096) refl
  where
    go : (b : Bool) → nat_le (length ss) 4096 ≡ b → None ≡ cond b (Some ss) None
    go true e = absurd (grind (arith, nat_tests))
    go false e = refl

module _ (plan : StructurePlan) (names : SlotNames) (mappings : List MappingPlan) where
  abbrev whole : ℕ → List Pending → List Slot
  whole = all_from plan names mappings

  -- a slot, and then what is inside
  subtree_is : (d n : ℕ) (p : Pending) → subtree plan names mappings d n p ≡ p.slot ∷ whole (n + 1) (inside_to plan names mappings d n p)
  unfolding all_from
  subtree_is zero n p = refl
  subtree_is (suc d) n p = ap (λ (ss : List Slot). p.slot ∷ ss) (same_depth plan names mappings d (n + 1) (inside plan names mappings d n p) (inside_depth plan names mappings d n p))

  -- the first slot that waits gets the first number, and what is inside follows
  next : (n : ℕ) (p : Pending) (ps : List Pending) → whole n (p ∷ ps) ≡ p.slot ∷ whole (n + 1) (inside_of plan names mappings n p ++ ps)
  unfolding all_from
  next n p ps =
      let children = inside_of plan names mappings n p in
      let within = whole (n + 1) children in
      let count : n + suc (length within) ≡ n + 1 + length within = omega arith in
      let f : ℕ → Pending → List Slot = λ k q. subtree plan names mappings q.depth k q in
      ap (λ (here : List Slot). here ++ in_order f (n + length here) ps) (subtree_is p.depth n p)
      ∙ ap (λ k. p.slot ∷ (within ++ in_order f k ps)) count
      ∙ ap (λ (ss : List Slot). p.slot ∷ ss) (sym (in_order_append f (n + 1) children ps))

  some_slot : (n : ℕ) (p : Pending) → 1 ≤ length (subtree plan names mappings p.depth n p)
  some_slot n p = let e = ap length (subtree_is p.depth n p) in omega (arith, e)

  whole_long : (n : ℕ) (ps : List Pending) → length ps ≤ length (whole n ps)
  unfolding all_from
  whole_long n ps = in_order_long (λ k (q : Pending). subtree plan names mappings q.depth k q) some_slot n ps

  pub placing_starts : (waiting : List Pending) → length waiting ≤ 4096 → Placing plan names mappings (whole 0 waiting) [] waiting
  placing_starts waiting few = record { so_far = refl; few = omega (arith, few) }

  placing_ends : (all slots : List Slot) → Placing plan names mappings all slots [] → slots ≡ all
  unfolding all_from
  placing_ends all slots h = sym (append-nil slots) ∙ h.so_far

  module _ (all slots : List Slot) (p : Pending) (rest : List Pending) (h : Placing plan names mappings all slots (p ∷ rest)) (n room : ℕ) (n_is : n ≡ length slots) (room_is : room ≡ 4096 - 1 - length rest - n) where
    abbrev inner : List Pending
    inner = inside_of plan names mappings n p

    reached : slots ++ (p.slot ∷ whole (length slots + 1) (inner ++ rest)) ≡ all
    reached =
        ap (λ k. slots ++ (p.slot ∷ whole (length slots + 1) (inside_of plan names mappings k p ++ rest))) n_is
        ∙ ap (λ (ss : List Slot). slots ++ ss) (sym (next (length slots) p rest)) ∙ h.so_far

    few : length slots + suc (length rest) ≤ 4096
    few = h.few

    -- the slots inside are found and wait
    pub placing_on : (children : List Pending) → children ≡ inner → length children ≤ room → (slots' : List Slot) → slots' ≡ slots ++ p.slot ∷ [] → Placing plan names mappings all slots' (children ++ rest)
    placing_on children are fit slots' added =
        let more : length slots' ≡ length slots + 1 = ap length added ∙ length_push slots p.slot in
        let size = length-append children rest in
        record {
          so_far =
              ap (λ k. slots' ++ whole k (children ++ rest)) more
              ∙ ap (λ (ss : List Slot). ss ++ whole (length slots + 1) (children ++ rest)) added
              ∙ append_assoc slots (p.slot ∷ []) (whole (length slots + 1) (children ++ rest))
              ∙ ap (λ (ps : List Pending). slots ++ (p.slot ∷ whole (length slots + 1) (ps ++ rest))) are
              ∙ reached;
          few = omega (arith, more, size, few, fit, n_is, room_is);
        }

    -- the slots inside are too many
    pub placing_over : room < length inner → 4096 < length all
    placing_over over =
        let after = whole (length slots + 1) (inner ++ rest) in
        let long = whole_long (length slots + 1) (inner ++ rest) in
        let parts = length-append inner rest in
        let total : length slots + suc (length after) ≡ length all = sym (length-append slots (p.slot ∷ after)) ∙ ap length reached in
        omega (arith, over, long, parts, total, n_is, room_is)

  pub placing_done : (all slots : List Slot) → Placing plan names mappings all slots [] → (slots ≡ all) × (length all ≤ 4096)
  placing_done all slots h =
      let ends = placing_ends all slots h in
      let same = ap length ends in
      (ends, omega (arith, same, h.few))

  -- all slots are those that wait at the top, and what is inside them
  pub slots_are : slots_of plan names mappings ≡ whole 0 (top_slots plan names mappings)
  unfolding slots_of
  slots_are = same_depth plan names mappings (length plan.classes) 0 (top_slots plan names mappings) (children_depth mappings (top plan mappings) names.subsystem plan.subsystem.references)

  pub top_count : length (top_slots plan names mappings) ≤ length (slots_of plan names mappings)
  top_count = let long = whole_long 0 (top_slots plan names mappings) in let same = ap length slots_are in omega (arith, long, same)
