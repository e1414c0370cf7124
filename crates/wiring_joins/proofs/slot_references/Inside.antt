-- The slots directly inside a container stand for its references.
use Rattle.std.proofs.Common.{◌≡◌, ◌∙◌, inl, inr, ℕ, zero, suc, ◌+◌, ◌<◌, Bool, true, false, cond, ◌==◌, List, [], ◌∷◌, map, Some, slice_get, count_by, refl, sym, ap, subst, arith, eq-eqb, ne_eqb}
use Rattle.std.specs.List.{enumerate_from, flat_map, range_with_len}
use Rattle.std.specs.Option.{option_map_or}
use Rattle.std.proofs.lemmas.Option.{same_Some}
use Rattle.room_wiring.specs.declared.slot.Slot.{Slot}
use Rattle.wiring_plan.specs.declared.structure_plan.plan.ReferencePlan.{ReferencePlan}
use Rattle.wiring_places.specs.place_rules.Parts.{container_of, container_of_parent}
use Rattle.wiring_joins.specs.slot_references.Types.{Above, Pending}
use Rattle.wiring_slots.specs.declared.slot_tree.names.MappingPlan.{MappingPlan}
use Rattle.wiring_slots.specs.declared.slot_tree.names.ReferenceLabel.{ReferenceLabel}
use Rattle.wiring_slots.specs.slot_tree.Slots.{pending_at, slots_of_reference, slots_of_references}
use Rattle.wiring_joins.proofs.slot_references.Counting.{get_either, count_append, count_cons}

-- how many slots the reference at a number stands for
abbrev pub reference_count : List ReferencePlan → ℕ → ℕ
reference_count rs r = option_map_or (λ (q : ReferencePlan). q.count) (slice_get rs r) 0

-- a slot stands for one of these references
abbrev pub Refers : List ReferencePlan → Slot → Type 0
Refers rs x = (q : ReferencePlan) × (slice_get rs x.reference ≡ Some q) × (x.class ≡ q.class) × (x.kind ≡ q.kind)

-- a slot that waits stands in a container for one of its references
pub record WaitsIn (c : ℕ) (rs : List ReferencePlan) (p : Pending) : Type 0 where
  pub container : container_of p.slot ≡ c
  pub refers : Refers rs p.slot

abbrev pub is_of : ℕ → Pending → Bool
is_of r p = p.slot.reference == r

module _ (mappings : List MappingPlan) (above : Above) (labels : List ReferenceLabel) where
  -- the slots of a reference have its number
  of_one : (number : ℕ) (q : ReferencePlan) (i n r : ℕ) (b : Bool) → (number == r) ≡ b → count_by (is_of r) (map (pending_at mappings above labels number q) (range_with_len i n)) ≡ cond b n 0
  unfolding pending_at
  of_one number q i zero r true e = refl
  of_one number q i zero r false e = refl
  of_one number q i (suc n) r true e =
      let here = ap {B = ℕ} (λ b. cond b 1 0) e in
      let rest = of_one number q (i + 1) n r true e in
      let both = count_cons (is_of r) (pending_at mappings above labels number q i) (map (pending_at mappings above labels number q) (range_with_len (i + 1) n)) in
      omega (arith, here, rest, both)
  of_one number q i (suc n) r false e =
      let here = ap {B = ℕ} (λ b. cond b 1 0) e in
      let rest = of_one number q (i + 1) n r false e in
      let both = count_cons (is_of r) (pending_at mappings above labels number q i) (map (pending_at mappings above labels number q) (range_with_len (i + 1) n)) in
      omega (arith, here, rest, both)

  abbrev all_of : ℕ → List ReferencePlan → List Pending
  all_of j rs = flat_map (slots_of_reference mappings above labels) (enumerate_from j rs)

  none_before : (j : ℕ) (rs : List ReferencePlan) (r : ℕ) → r < j → count_by (is_of r) (all_of j rs) ≡ 0
  none_before j [] r lt = refl
  none_before j (q ∷ rs) r lt =
      let here = of_one j q 0 q.count r false (ne_eqb j r (λ e. omega (arith, e, lt))) in
      let rest = none_before (j + 1) rs r (omega (arith, lt)) in
      let both = count_append (is_of r) (slots_of_reference mappings above labels (j, q)) (all_of (j + 1) rs) in
      omega (arith, here, rest, both)

  each_reference : (j : ℕ) (rs : List ReferencePlan) (i : ℕ) → count_by (is_of (j + i)) (all_of j rs) ≡ reference_count rs i
  each_reference j [] i = refl
  each_reference j (q ∷ rs) zero =
      let same : j ≡ j + 0 = omega arith in
      let here = of_one j q 0 q.count (j + 0) true (eq-eqb j (j + 0) same) in
      let rest = none_before (j + 1) rs (j + 0) (omega arith) in
      let both = count_append (is_of (j + 0)) (slots_of_reference mappings above labels (j, q)) (all_of (j + 1) rs) in
      omega (arith, here, rest, both)
  each_reference j (q ∷ rs) (suc i) =
      let here = of_one j q 0 q.count (j + suc i) false (ne_eqb j (j + suc i) (λ e. omega (arith, e))) in
      let next : (j + 1) + i ≡ j + suc i = omega arith in
      let rest = ap (λ r. count_by (is_of r) (all_of (j + 1) rs)) (sym next) ∙ each_reference (j + 1) rs i in
      let both = count_append (is_of (j + suc i)) (slots_of_reference mappings above labels (j, q)) (all_of (j + 1) rs) in
      omega (arith, here, rest, both)

  -- each reference has as many slots as it says
  pub references_counted : (rs : List ReferencePlan) (r : ℕ) → count_by (is_of r) (slots_of_references mappings above labels rs) ≡ reference_count rs r
  unfolding slots_of_references
  references_counted rs r = let e : r ≡ 0 + r = omega arith in ap (λ n. count_by (is_of n) (all_of 0 rs)) e ∙ each_reference 0 rs r

  -- a test that holds of each slot of each reference
  module _ (P : Pending → Type 0) (whole : List ReferencePlan) (holds : (r : ℕ) (q : ReferencePlan) (i : ℕ) → slice_get whole r ≡ Some q → P (pending_at mappings above labels r q i)) where
    of_indexes : (r : ℕ) (q : ReferencePlan) → slice_get whole r ≡ Some q → (i n k : ℕ) (p : Pending) → slice_get (map (pending_at mappings above labels r q) (range_with_len i n)) k ≡ Some p → P p
    of_indexes r q at i zero k p e = absurd cc
    of_indexes r q at i (suc n) zero p e = subst P (same_Some (pending_at mappings above labels r q i) p e) (holds r q i at)
    of_indexes r q at i (suc n) (suc k) p e = of_indexes r q at (i + 1) n k p e

    of_references : (j : ℕ) (rs : List ReferencePlan) → ((i : ℕ) → slice_get rs i ≡ slice_get whole (j + i)) → (k : ℕ) (p : Pending) → slice_get (all_of j rs) k ≡ Some p → P p
    of_references j [] same k p e = absurd cc
    of_references j (q ∷ rs) same k p e =
        let first : slice_get whole j ≡ Some q = (let z : j ≡ j + 0 = omega arith in ap (slice_get whole) z) ∙ sym (same 0) in
        elim (get_either (slots_of_reference mappings above labels (j, q)) (all_of (j + 1) rs) k p e) [
          | inl a ↦ of_indexes j q first 0 q.count k p a
          | inr b ↦ of_references (j + 1) rs (λ i. same (suc i) ∙ (let z : j + suc i ≡ (j + 1) + i = omega arith in ap (slice_get whole) z)) b.0 p b.2
        ]

    pub references_hold : (k : ℕ) (p : Pending) → slice_get (slots_of_references mappings above labels whole) k ≡ Some p → P p
    unfolding slots_of_references
    references_hold k p e = of_references 0 whole (λ i. let z : i ≡ 0 + i = omega arith in ap (slice_get whole) z) k p e

  -- each of them stands for a reference
  pub references_wait : (rs : List ReferencePlan) (k : ℕ) (p : Pending) → slice_get (slots_of_references mappings above labels rs) k ≡ Some p → WaitsIn (container_of_parent above.parent) rs p
  unfolding pending_at
  references_wait rs k p e = references_hold (WaitsIn (container_of_parent above.parent) rs) rs one k p e
    where
      one : (r : ℕ) (q : ReferencePlan) (i : ℕ) → slice_get rs r ≡ Some q → WaitsIn (container_of_parent above.parent) rs (pending_at mappings above labels r q i)
      one r q i at = record { container = refl; refers = (q, at, refl, refl) }
