-- The slots of a structure are a block, and so numbered depth first.
use Rattle.std.proofs.Common.{◌≡◌, ◌∙◌, ℕ, zero, suc, ◌+◌, ◌<◌, ◌≤◌, Bool, true, false, cond, List, [], ◌∷◌, length, map, Option, Some, None, slice_get, refl, sym, ap, subst, arith, inl, inr}
use Rattle.std.specs.Prelude.{All, option_and_then}
use Rattle.std.specs.List.{enumerate_from, flat_map, range_with_len}
use Rattle.std.specs.Option.{option_map_or}
use Rattle.std.proofs.lemmas.List.Elements.{All-nil, All-cons, All-head, All-tail, All-append}
use Rattle.std.proofs.lemmas.Option.{same_Some, slice_get_cases, slice_get_within}
use Rattle.room_kinds.specs.declared.numbers.SlotId.{SlotId}
use Rattle.room_wiring.specs.Slots.{slot_at}
use Rattle.room_wiring.specs.declared.slot.Slot.{Slot}
use Rattle.room_wiring.specs.declared.tables.Tables.{Tables}
use Rattle.wiring_plan.specs.declared.structure_plan.plan.ReferencePlan.{ReferencePlan}
use Rattle.wiring_plan.specs.declared.structure_plan.plan.StructurePlan.{StructurePlan}
use Rattle.wiring_joins.specs.slot_references.Types.{Above, Pending}
use Rattle.wiring_slots.specs.declared.slot_tree.names.MappingPlan.{MappingPlan}
use Rattle.wiring_slots.specs.declared.slot_tree.names.ReferenceLabel.{ReferenceLabel}
use Rattle.wiring_slots.specs.declared.slot_tree.names.SlotNames.{SlotNames}
use Rattle.wiring_slots.specs.slot_tree.Orders.{in_order}
use Rattle.room_kinds.specs.Structure.{is_imported}
use Rattle.wiring_slots.specs.slot_tree.Slots.{pending_at, slots_of_reference, slots_of_references, above_in, labels_of_class, references_of_class, inside, subtree, top, top_slots, slots_of}
use Rattle.actor_duties.specs.Words.{container_number, container_of}
use Rattle.service_messages.specs.slot_runs.Runs.{is_inside, IsDepthFirst}
use Rattle.service_messages.proofs.slot_runs.RunLemmas.{inside_from}
use Rattle.law_models.proofs.wiring_laws.slot_order.Blocks.{IsBelow, IsBlock, block_none, block_both, block_root}

-- a slot that waits has this container
abbrev pub WaitsIn : Option ℕ → Pending → Type 0
WaitsIn c p = container_number p.slot ≡ c

-- the number of what is above
abbrev pub number_above : Above → Option ℕ
number_above above = option_map_or (λ (s : SlotId). Some s.0) above.parent None

-- the slots of references wait right in what is above
module _ (mappings : List MappingPlan) (above : Above) (labels : List ReferenceLabel) where
  one_waits : (r : ℕ × ReferencePlan) (i : ℕ) → WaitsIn (number_above above) (pending_at mappings above labels r.0 r.1 i)
  unfolding pending_at
  one_waits r i = refl

  indexes_wait : (r : ℕ × ReferencePlan) (i n : ℕ) → All (WaitsIn (number_above above)) (map (pending_at mappings above labels r.0 r.1) (range_with_len i n))
  indexes_wait r i zero = All-nil (WaitsIn (number_above above))
  indexes_wait r i (suc n) = All-cons (WaitsIn (number_above above)) (pending_at mappings above labels r.0 r.1 i) (map (pending_at mappings above labels r.0 r.1) (range_with_len (i + 1) n)) (one_waits r i) (indexes_wait r (i + 1) n)

  each_waits : (j : ℕ) (rs : List ReferencePlan) → All (WaitsIn (number_above above)) (flat_map (slots_of_reference mappings above labels) (enumerate_from j rs))
  each_waits j [] = All-nil (WaitsIn (number_above above))
  each_waits j (r ∷ rs) =
      All-append (WaitsIn (number_above above)) (slots_of_reference mappings above labels (j, r)) (flat_map (slots_of_reference mappings above labels) (enumerate_from (j + 1) rs))
      (indexes_wait (j, r) 0 r.count) (each_waits (j + 1) rs)

  references_wait : (rs : List ReferencePlan) → All (WaitsIn (number_above above)) (slots_of_references mappings above labels rs)
  unfolding slots_of_references
  references_wait rs = each_waits 0 rs

-- a number that is behind all that is above stays so
still_below : (c : Option ℕ) (n m : ℕ) → IsBelow c n → n ≤ m → IsBelow c m
still_below c n m below le p e = let less = below p e in omega (arith, less, le)

-- slots that wait, each with all inside, are a block
order_block : (make : ℕ → Pending → List Slot) (c : Option ℕ) → ((n : ℕ) (p : Pending) → IsBelow c n → WaitsIn c p → IsBlock n c (make n p)) → (n : ℕ) (ps : List Pending) → IsBelow c n → All (WaitsIn c) ps → IsBlock n c (in_order make n ps)
order_block make c each n [] below all = block_none n c
order_block make c each n (p ∷ ps) below all =
    let next = n + length (make n p) in
    block_both n c (make n p) (in_order make next ps) below (each n p below (All-head (WaitsIn c) p ps all))
    (order_block make c each next ps (still_below c n next below (omega arith)) (All-tail (WaitsIn c) p ps all))

module _ (plan : StructurePlan) (names : SlotNames) (mappings : List MappingPlan) where
  inside_waits : (d n : ℕ) (p : Pending) → All (WaitsIn (Some n)) (inside plan names mappings d n p)
  inside_waits d n p = pick (is_imported p.slot.kind)
    where
      pick : (b : Bool) → All (WaitsIn (Some n)) (cond b [] (slots_of_references mappings (above_in d n p) (labels_of_class names p.slot.class) (references_of_class plan p.slot.class)))
      pick true = All-nil (WaitsIn (Some n))
      pick false = references_wait mappings (above_in d n p) (labels_of_class names p.slot.class) (references_of_class plan p.slot.class)

  own_below : (n : ℕ) → IsBelow (Some n) (n + 1)
  own_below n p e = let same = same_Some n p e in omega (arith, same)

  -- a slot and all that is inside are a block
  subtree_block : (d : ℕ) (c : Option ℕ) (n : ℕ) (p : Pending) → IsBelow c n → WaitsIn c p → IsBlock n c (subtree plan names mappings d n p)
  subtree_block zero c n p below right = block_root n c p.slot [] right (block_none (n + 1) (Some n))
  subtree_block (suc d) c n p below right =
      block_root n c p.slot (in_order (subtree plan names mappings d) (n + 1) (inside plan names mappings d n p)) right
      (order_block (subtree plan names mappings d) (Some n) (λ m q less wait. subtree_block d (Some n) m q less wait) (n + 1) (inside plan names mappings d n p) (own_below n) (inside_waits d n p))

  slots_block : IsBlock 0 None (slots_of plan names mappings)
  unfolding slots_of
  slots_block =
      order_block (subtree plan names mappings (length plan.classes)) None (λ m q less wait. subtree_block (length plan.classes) None m q less wait) 0 (top_slots plan names mappings) (λ p e. absurd cc)
      (references_wait mappings (top plan mappings) names.subsystem plan.subsystem.references)

-- where slots are a block, they are numbered depth first
module _ (t : Tables) (block : IsBlock 0 None t.slots) where
  -- the slot that a container is told of
  slot_of : (s c : ℕ) → container_of t s ≡ Some c → (x : Slot) × (slice_get t.slots s ≡ Some x) × (container_number x ≡ Some c)
  unfolding container_of
  slot_of s c h = go (slot_at t s) refl h
    where
      go : (o : Option Slot) → slot_at t s ≡ o → option_and_then container_number o ≡ Some c → (x : Slot) × (slice_get t.slots s ≡ Some x) × (container_number x ≡ Some c)
      go None e k = absurd cc
      go (Some x) e k = (x, e, k)

  container_from : (u q : ℕ) (y : Slot) → slice_get t.slots u ≡ Some y → container_number y ≡ Some q → container_of t u ≡ Some q
  unfolding container_of
  container_from u q y at is = ap (option_and_then container_number) at ∙ is

  stands_behind : (s c : ℕ) → container_of t s ≡ Some c → c < s
  stands_behind s c h =
      let x = slot_of s c h in
      elim (block.stands s x.0 x.1) [
        | inl top ↦ let never : ◌≡◌ {A = Option ℕ} None (Some c) = sym top ∙ x.2 in absurd cc
        | inr p ↦
            let same = same_Some p.0 c (sym p.1 ∙ x.2) in
            let less = p.3 in
            omega (arith, same, less)
      ]

  lies_between : (s c u : ℕ) → container_of t s ≡ Some c → c < u → u < s → is_inside t c u ≡ true
  lies_between s c u h from to =
      let x = slot_of s c h in
      let within = slice_get_within t.slots s x.0 x.1 in
      elim (slice_get_cases t.slots u).1 [
        | inl y ↦
            let lies = block.between s u c x.0 y.0 x.1 x.2 (omega arith) (omega (arith, from)) to y.2 in
            inside_from t c u lies.0 (container_from u lies.0 y.0 y.2 lies.1) lies.2
        | inr past ↦ let end = past.0 in absurd (omega (arith, end, within, to))
      ]

  pub depth_first : IsDepthFirst t
  depth_first = record { behind = stands_behind; between = lies_between }

-- the slots of a structure are numbered depth first
pub tree_depth_first : (plan : StructurePlan) (names : SlotNames) (mappings : List MappingPlan) (t : Tables) → t.slots ≡ slots_of plan names mappings → IsDepthFirst t
tree_depth_first plan names mappings t same = depth_first t (subst (IsBlock 0 None) (sym same) (slots_block plan names mappings))
