-- The slots directly inside a container are looked into equally deep.
use Rattle.std.proofs.Common.{◌≡◌, ◌∙◌, ℕ, zero, suc, ◌+◌, Bool, true, false, cond, List, [], ◌∷◌, ◌++◌, length, map, refl, sym, ap}
use Rattle.std.specs.List.{enumerate_from, flat_map, range_with_len}
use Rattle.wiring_plan.specs.declared.structure_plan.plan.ReferencePlan.{ReferencePlan}
use Rattle.wiring_plan.specs.declared.structure_plan.plan.StructurePlan.{StructurePlan}
use Rattle.wiring_slots.specs.declared.slot_tree.names.MappingPlan.{MappingPlan}
use Rattle.wiring_slots.specs.declared.slot_tree.names.ReferenceLabel.{ReferenceLabel}
use Rattle.wiring_slots.specs.declared.slot_tree.names.SlotNames.{SlotNames}
use Rattle.room_kinds.specs.Structure.{is_imported}
use Rattle.wiring_slots.specs.slot_tree.Slots.{Pending, Above, pending_at, slots_of_reference, slots_of_references, above_in, labels_of_class, references_of_class, inside, subtree}
use Rattle.wiring_slots.specs.slot_tree.Orders.{in_order}
use Rattle.wiring_slots.specs.slot_tree.Placing.{all_from}

-- these are looked into so deep
abbrev pub HaveDepth : ℕ → List Pending → Type 0
HaveDepth d [] = Unit {0}
HaveDepth d (p ∷ ps) = (p.depth ≡ d) × HaveDepth d ps

both : (d : ℕ) (xs ys : List Pending) → HaveDepth d xs → HaveDepth d ys → HaveDepth d (xs ++ ys)
both d [] ys hx hy = hy
both d (x ∷ xs) ys hx hy = (hx.0, both d xs ys hx.1 hy)

module _ (mappings : List MappingPlan) (above : Above) (labels : List ReferenceLabel) where
  one : (r : ℕ × ReferencePlan) (i : ℕ) → (pending_at mappings above labels r.0 r.1 i).depth ≡ above.depth
  unfolding pending_at
  one r i = refl

  of_indexes : (r : ℕ × ReferencePlan) (i n : ℕ) → HaveDepth above.depth (map (pending_at mappings above labels r.0 r.1) (range_with_len i n))
  of_indexes r i zero = tt
  of_indexes r i (suc n) = (one r i, of_indexes r (i + 1) n)

  of_references : (n : ℕ) (rs : List ReferencePlan) → HaveDepth above.depth (flat_map (slots_of_reference mappings above labels) (enumerate_from n rs))
  of_references n [] = tt
  of_references n (r ∷ rs) = both above.depth (slots_of_reference mappings above labels (n, r)) _ (of_indexes (n, r) 0 r.count) (of_references (n + 1) rs)

  pub children_depth : (rs : List ReferencePlan) → HaveDepth above.depth (slots_of_references mappings above labels rs)
  unfolding slots_of_references
  children_depth rs = of_references 0 rs

pub inside_depth : (plan : StructurePlan) (names : SlotNames) (mappings : List MappingPlan) (d n : ℕ) (p : Pending) → HaveDepth d (inside plan names mappings d n p)
inside_depth plan names mappings d n p = pick (is_imported p.slot.kind)
  where
    pick : (b : Bool) → HaveDepth d (cond b [] (slots_of_references mappings (above_in d n p) (labels_of_class names p.slot.class) (references_of_class plan p.slot.class)))
    pick true = tt
    pick false = children_depth mappings (above_in d n p) (labels_of_class names p.slot.class) (references_of_class plan p.slot.class)

-- looked into equally deep, they make the same in order whether the depth is theirs or is given
pub same_depth : (plan : StructurePlan) (names : SlotNames) (mappings : List MappingPlan) (d n : ℕ) (ps : List Pending) → HaveDepth d ps → in_order (subtree plan names mappings d) n ps ≡ all_from plan names mappings n ps
unfolding all_from
same_depth plan names mappings d n [] h = refl
same_depth plan names mappings d n (p ∷ ps) h =
    ap (λ k. subtree plan names mappings k n p ++ in_order (subtree plan names mappings d) (n + length (subtree plan names mappings k n p)) ps) (sym h.0)
    ∙ ap (λ rest. subtree plan names mappings p.depth n p ++ rest) (same_depth plan names mappings d (n + length (subtree plan names mappings p.depth n p)) ps h.1)
