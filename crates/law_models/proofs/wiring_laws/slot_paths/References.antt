-- The slots directly inside a container have different paths.
use Rattle.std.proofs.Common.{◌≡◌, ◌≢◌, ◌∙◌, ℕ, zero, suc, ◌+◌, ◌<◌, ◌≤◌, Bool, true, false, List, [], ◌∷◌, ◌++◌, map, Option, Some, refl, sym, ap, subst, arith}
use Rattle.std.specs.Prelude.{slice_get}
use Rattle.std.specs.List.{enumerate_from, flat_map, range_with_len}
use Rattle.std.specs.Option.{option_map_or}
use Rattle.wiring_plan.specs.declared.structure_plan.plan.ReferencePlan.{ReferencePlan}
use Rattle.wiring_joins.specs.slot_references.Types.{Above, Pending}
use Rattle.wiring_slots.specs.declared.slot_tree.names.MappingPlan.{MappingPlan}
use Rattle.wiring_slots.specs.declared.slot_tree.names.ReferenceLabel.{ReferenceLabel}
use Rattle.wiring_slots.specs.slot_tree.Slots.{index_text, segment_text, path_text, pending_at, slots_of_references}
use Rattle.law_models.specs.wiring_laws.slot_paths.Labels.{IsCalled, AreCalled}
use Rattle.law_models.proofs.wiring_laws.slot_paths.Each.{Each, each_append, each_range}
use Rattle.law_models.proofs.wiring_laws.slot_paths.Texts.{no_slash, no_colon, Segment, segment_lacks, same_behind, same_segment, same_index}

-- slots one segment behind a prefix, with different paths
abbrev pub Siblings : List ℕ → List Pending → Type 0
Siblings pre [] = Unit {0}
Siblings pre (q ∷ qs) = Segment pre q.slot.path × Each (λ (r : Pending). q.slot.path ≢ r.slot.path) qs × Siblings pre qs

siblings_append : (pre : List ℕ) (xs ys : List Pending) → Siblings pre xs → Siblings pre ys → Each (λ (x : Pending). Each (λ (y : Pending). x.slot.path ≢ y.slot.path) ys) xs → Siblings pre (xs ++ ys)
siblings_append pre [] ys h k apart = k
siblings_append pre (x ∷ xs) ys h k apart = (h.0, each_append (λ (r : Pending). x.slot.path ≢ r.slot.path) xs ys h.1 apart.0, siblings_append pre xs ys h.2 k apart.1)

same_item : {A : Type 0} (o : Option A) (x y : A) → o ≡ Some x → o ≡ Some y → x ≡ y
same_item o x y e f = let both : Some x ≡ Some y = sym e ∙ f in cc

module _ (mappings : List MappingPlan) (above : Above) (labels : List ReferenceLabel) (whole : List ReferencePlan) (are : AreCalled labels whole) where
  path : ℕ → ℕ → List ℕ
  path number index = path_text above.prefix labels number index

  path_is : (number index : ℕ) (a : ReferenceLabel) → slice_get labels number ≡ Some a → path number index ≡ above.prefix ++ segment_text index a
  unfolding path
  path_is number index a e = ap (λ (o : Option ReferenceLabel). above.prefix ++ option_map_or (segment_text index) o []) e

  is_segment : (number index : ℕ) (r : ReferencePlan) → slice_get whole number ≡ Some r → index < r.count → Segment above.prefix (path number index)
  is_segment number index r e lt =
      let called = are.called number r e in
      record { segment = segment_text index called.0; is = path_is number index called.0 called.1; plain = segment_lacks called.0 index (let short = called.2.short in omega (arith, short)) (no_slash called.0.name called.2.name) }

  -- an index tells slots of one reference apart
  indexes_differ : (a : ReferenceLabel) (r : ReferencePlan) (i j : ℕ) (b : Bool) → a.replicated ≡ b → IsCalled a r → i < r.count → j < r.count → i ≢ j → index_text b i ≡ index_text b j → ⊥
  indexes_differ a r i j true is called li lj ne e = ne (same_index i j (let short = called.short in omega (arith, short)) (let short = called.short in omega (arith, short)) e)
  indexes_differ a r i j false is called li lj ne e = let one = called.single is in ne (omega (arith, one))

  one_reference : (number i j : ℕ) (r q : ReferencePlan) (a b : ReferenceLabel) → slice_get whole number ≡ Some r → slice_get whole number ≡ Some q → slice_get labels number ≡ Some a → slice_get labels number ≡ Some b → IsCalled a r
      → i < r.count → j < q.count → i ≢ j → index_text a.replicated i ≡ index_text b.replicated j → ⊥
  one_reference number i j r q a b er eq ea eb called li lj ne e =
      let same_label = same_item (slice_get labels number) b a eb ea in
      let same_count = ap (λ (x : ReferencePlan). x.count) (same_item (slice_get whole number) q r eq er) in
      indexes_differ a r i j a.replicated refl called li (omega (arith, same_count)) ne (e ∙ ap (λ (x : ReferenceLabel). index_text x.replicated j) same_label)

  -- slots of different references or indexes have different paths
  paths_apart : (n m i j : ℕ) (r q : ReferencePlan) → slice_get whole n ≡ Some r → slice_get whole m ≡ Some q → i < r.count → j < q.count → (n ≡ m → i ≢ j) → path n i ≢ path m j
  paths_apart n m i j r q er eq li lj ne e =
      let a = are.called n r er in
      let b = are.called m q eq in
      let segments = same_behind above.prefix (segment_text i a.0) (segment_text j b.0) (sym (path_is n i a.0 a.1) ∙ e ∙ path_is m j b.0 b.1) in
      let same = same_segment a.0 b.0 i j (no_colon a.0.name a.2.name) (no_colon b.0.name b.2.name) segments in
      let number = are.differ n m a.0 b.0 a.1 b.1 same.0 in
      one_reference n i j r q a.0 b.0 er (ap (slice_get whole) number ∙ eq) a.1 (ap (slice_get labels) number ∙ b.1) a.2 li lj (ne number) same.1

  -- ---- in lists

  made : ℕ → ReferencePlan → ℕ → Pending
  made number r = pending_at mappings above labels number r

  made_path : (number : ℕ) (r : ReferencePlan) (index : ℕ) → (made number r index).slot.path ≡ path number index
  unfolding made path pending_at
  made_path number r index = refl

  made_apart : (n m i j : ℕ) (r q : ReferencePlan) → slice_get whole n ≡ Some r → slice_get whole m ≡ Some q → i < r.count → j < q.count → (n ≡ m → i ≢ j) → (made n r i).slot.path ≢ (made m q j).slot.path
  made_apart n m i j r q er eq li lj ne e = paths_apart n m i j r q er eq li lj ne (sym (made_path n r i) ∙ e ∙ made_path m q j)

  made_segment : (n i : ℕ) (r : ReferencePlan) → slice_get whole n ≡ Some r → i < r.count → Segment above.prefix (made n r i).slot.path
  made_segment n i r e lt = subst (Segment above.prefix) (sym (made_path n r i)) (is_segment n i r e lt)

  -- the slots of one reference from an index on
  of_indexes : (n i count : ℕ) (r : ReferencePlan) → slice_get whole n ≡ Some r → i + count ≤ r.count → Siblings above.prefix (map (made n r) (range_with_len i count))
  of_indexes n i zero r e le = tt
  of_indexes n i (suc count) r e le = (
    made_segment n i r e (omega arith),
    each_range (λ (p : Pending). (made n r i).slot.path ≢ p.slot.path) (made n r) (i + 1) count (λ j low high. made_apart n n i j r r e e (omega arith) (omega arith) (λ same at. omega (arith, at))),
    of_indexes n (i + 1) count r e (omega arith),
  )

  -- the references from a number on
  AreFrom : ℕ → List ReferencePlan → Type 0
  AreFrom m rs = (k : ℕ) (q : ReferencePlan) → slice_get rs k ≡ Some q → slice_get whole (m + k) ≡ Some q

  from_next : (m : ℕ) (q : ReferencePlan) (rs : List ReferencePlan) → AreFrom m (q ∷ rs) → AreFrom (m + 1) rs
  unfolding AreFrom
  from_next m q rs are_from = λ k x e. let at : m + suc k ≡ (m + 1) + k = omega arith in subst (λ n. slice_get whole n ≡ Some x) at (are_from (suc k) x e)

  from_first : (m : ℕ) (q : ReferencePlan) (rs : List ReferencePlan) → AreFrom m (q ∷ rs) → slice_get whole m ≡ Some q
  unfolding AreFrom
  from_first m q rs are_from = let at : m + 0 ≡ m = omega arith in subst (λ n. slice_get whole n ≡ Some q) at (are_from 0 q refl)

  all_made : ℕ → List ReferencePlan → List Pending
  all_made m rs = flat_map (λ (x : ℕ × ReferencePlan). map (made x.0 x.1) (range_with_len 0 x.1.count)) (enumerate_from m rs)

  -- a slot of an earlier reference has another path than those of the later ones
  later_apart : (n i m : ℕ) (r : ReferencePlan) (rs : List ReferencePlan) → slice_get whole n ≡ Some r → i < r.count → n < m → AreFrom m rs → Each (λ (p : Pending). (made n r i).slot.path ≢ p.slot.path) (all_made m rs)
  unfolding all_made
  later_apart n i m r [] e lt before are_from = tt
  later_apart n i m r (q ∷ rs) e lt before are_from =
      each_append (λ (p : Pending). (made n r i).slot.path ≢ p.slot.path) (map (made m q) (range_with_len 0 q.count)) (all_made (m + 1) rs)
      (each_range (λ (p : Pending). (made n r i).slot.path ≢ p.slot.path) (made m q) 0 q.count (λ j low high. made_apart n m i j r q e (from_first m q rs are_from) lt (omega arith) (λ same at. omega (arith, same))))
      (later_apart n i (m + 1) r rs e lt (omega arith) (from_next m q rs are_from))

  all_siblings : (m : ℕ) (rs : List ReferencePlan) → AreFrom m rs → Siblings above.prefix (all_made m rs)
  unfolding all_made
  all_siblings m [] are_from = tt
  all_siblings m (q ∷ rs) are_from =
      let first = from_first m q rs are_from in
      siblings_append above.prefix (map (made m q) (range_with_len 0 q.count)) (all_made (m + 1) rs) (of_indexes m 0 q.count q first (omega arith)) (all_siblings (m + 1) rs (from_next m q rs are_from))
      (each_range (λ (x : Pending). Each (λ (y : Pending). x.slot.path ≢ y.slot.path) (all_made (m + 1) rs)) (made m q) 0 q.count (λ i low high. later_apart m i (m + 1) q rs first (omega arith) (omega arith) (from_next m q rs are_from)))

  -- the slots directly inside a container
  pub references_siblings : Siblings above.prefix (slots_of_references mappings above labels whole)
  unfolding slots_of_references all_made made AreFrom
  references_siblings = all_siblings 0 whole (λ k q e. let at : k ≡ 0 + k = omega arith in subst (λ n. slice_get whole n ≡ Some q) at e)
