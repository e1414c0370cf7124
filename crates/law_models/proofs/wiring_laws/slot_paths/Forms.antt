-- Paths are made of names and indexes.
use Rattle.std.proofs.Common.{◌≡◌, ◌∙◌, ◌⊎◌, inl, inr, ℕ, zero, suc, ◌+◌, ◌^◌, ◌<◌, ◌≤◌, Bool, true, false, cond, List, [], ◌∷◌, ◌++◌, append_assoc, map, length, length-append, Some, refl, sym, ap, subst, arith}
use Rattle.std.specs.Prelude.{All, decimal, slice_get}
use Rattle.std.specs.List.{list_all, join_with_byte, enumerate_from, flat_map, range_with_len}
use Rattle.std.specs.Option.{option_map_or}
use Rattle.std.specs.Str.{all_ascii_digits}
use Rattle.std.specs.Char.{is_ascii_digit}
use Rattle.std.proofs.lemmas.Bool.{and_parts, and_from}
use Rattle.std.proofs.lemmas.Bool.Decides.{nat_tests}
use Rattle.std.proofs.lemmas.Fmt.{digits_decimal, decimal_nonempty}
use Rattle.std.proofs.lemmas.List.{append-nil}
use Rattle.std.proofs.lemmas.List.Elements.{All-nil, All-cons, All-append}
use Rattle.room_wiring.specs.WellNamed.{is_digit, IsIdent, IsSegment, IsPath}
use Rattle.room_wiring.specs.declared.slot.Slot.{Slot}
use Rattle.wiring_plan.specs.declared.structure_plan.plan.ReferencePlan.{ReferencePlan}
use Rattle.wiring_plan.specs.declared.structure_plan.plan.StructurePlan.{StructurePlan}
use Rattle.wiring_joins.specs.slot_references.Types.{Above, Pending}
use Rattle.wiring_slots.specs.declared.slot_tree.names.MappingPlan.{MappingPlan}
use Rattle.wiring_slots.specs.declared.slot_tree.names.ReferenceLabel.{ReferenceLabel}
use Rattle.wiring_slots.specs.declared.slot_tree.names.SlotNames.{SlotNames}
use Rattle.wiring_slots.specs.slot_tree.Orders.{in_order}
use Rattle.room_kinds.specs.Structure.{is_imported}
use Rattle.wiring_slots.specs.slot_tree.Slots.{index_text, segment_text, path_text, pending_at, slots_of_reference, slots_of_references, above_in, labels_of_class, references_of_class, inside, subtree, top, top_slots, slots_of}
use Rattle.law_models.specs.wiring_laws.slot_paths.Labels.{AreCalled, CallsApart}
use Rattle.law_models.proofs.wiring_laws.slot_paths.Each.{Each, each_append, each_range}
use Rattle.text_reading.proofs.Decimals.{own}

-- ---- segments

digit_is : (b : ℕ) → is_ascii_digit b ≡ true → is_digit b ≡ true
digit_is b h = grind (arith, nat_tests)

digits_are : (w : List ℕ) → all_ascii_digits w ≡ true → list_all is_digit w ≡ true
digits_are [] h = refl
digits_are (b ∷ bs) h =
    let parts = and_parts (is_ascii_digit b) (all_ascii_digits bs) h in
    and_from (is_digit b) (list_all is_digit bs) (digit_is b parts.0) (digits_are bs parts.1)

segment_formed : (a : ReferenceLabel) (i : ℕ) → i < 2 ^ 32 → IsIdent a.name → IsSegment (segment_text i a)
segment_formed a i small ident = pick a.replicated
  where
    pick : (b : Bool) → IsSegment (a.name ++ index_text b i)
    pick true = record { name = a.name; index = decimal i; named = ident; digits = digits_are (decimal i) (digits_decimal own i (omega arith)); text_is = inr (decimal_nonempty i (omega arith), refl) }
    pick false = record { name = a.name; index = []; named = ident; digits = refl; text_is = inl (append-nil a.name) }

-- ---- paths

join_more : (ws : List (List ℕ)) (w : List ℕ) → 1 ≤ length ws → join_with_byte 47 (ws ++ w ∷ []) ≡ join_with_byte 47 ws ++ 47 ∷ w
join_more [] w h = absurd (omega arith)
join_more (v ∷ []) w h = refl
join_more (v ∷ u ∷ ws) w h = ap (λ x. v ++ 47 ∷ x) (join_more (u ∷ ws) w (omega arith)) ∙ sym (append_assoc v (47 ∷ join_with_byte 47 (u ∷ ws)) (47 ∷ w))

-- nothing, or a path and `/`
abbrev IsPrefix : List ℕ → Type 0
IsPrefix pre = (pre ≡ []) ⊎ ((path : List ℕ) × IsPath path × (pre ≡ path ++ 47 ∷ []))

formed : (pre segment : List ℕ) → IsPrefix pre → IsSegment segment → IsPath (pre ++ segment)
formed pre segment (inl e) s = subst (λ p. IsPath (p ++ segment)) (sym e) (record { segments = segment ∷ []; some = omega arith; each = All-cons IsSegment segment [] s (All-nil IsSegment); joined = refl })
formed pre segment (inr p) s =
    let more = length-append p.1.segments (segment ∷ []) in
    subst (λ q. IsPath (q ++ segment)) (sym p.2) (record {
      segments = p.1.segments ++ segment ∷ [];
      some = omega (arith, more);
      each = All-append IsSegment p.1.segments (segment ∷ []) p.1.each (All-cons IsSegment segment [] s (All-nil IsSegment));
      joined = append_assoc p.0 (47 ∷ []) segment ∙ ap (λ q. q ++ 47 ∷ segment) p.1.joined ∙ sym (join_more p.1.segments segment p.1.some);
    })

-- ---- the slots directly inside a container

abbrev IsFormed : Pending → Type 0
IsFormed p = IsPath p.slot.path

module _ (mappings : List MappingPlan) (above : Above) (labels : List ReferenceLabel) (whole : List ReferencePlan) (are : AreCalled labels whole) (prefix : IsPrefix above.prefix) where
  made_formed : (n i : ℕ) (r : ReferencePlan) → slice_get whole n ≡ Some r → i < r.count → IsFormed (pending_at mappings above labels n r i)
  unfolding pending_at
  made_formed n i r e lt =
      let called = are.called n r e in
      let is : path_text above.prefix labels n i ≡ above.prefix ++ segment_text i called.0 = ap (λ o. above.prefix ++ option_map_or (segment_text i) o []) called.1 in
      subst IsPath (sym is) (formed above.prefix (segment_text i called.0) prefix (segment_formed called.0 i (let short = called.2.short in omega (arith, short)) called.2.name))

  formed_from : (m : ℕ) (rs : List ReferencePlan) → ((k : ℕ) (q : ReferencePlan) → slice_get rs k ≡ Some q → slice_get whole (m + k) ≡ Some q) → Each IsFormed (flat_map (slots_of_reference mappings above labels) (enumerate_from m rs))
  formed_from m [] at = tt
  formed_from m (q ∷ rs) at =
      let here : m + 0 ≡ m = omega arith in
      let first = subst (λ n. slice_get whole n ≡ Some q) here (at 0 q refl) in
      each_append IsFormed (map (pending_at mappings above labels m q) (range_with_len 0 q.count)) (flat_map (slots_of_reference mappings above labels) (enumerate_from (m + 1) rs))
      (each_range IsFormed (pending_at mappings above labels m q) 0 q.count (λ i low high. made_formed m i q first (omega arith)))
      (formed_from (m + 1) rs (λ k x e. let next : m + suc k ≡ (m + 1) + k = omega arith in subst (λ n. slice_get whole n ≡ Some x) next (at (suc k) x e)))

  references_formed : Each IsFormed (slots_of_references mappings above labels whole)
  unfolding slots_of_references
  references_formed = formed_from 0 whole (λ k q e. let at : k ≡ 0 + k = omega arith in subst (λ n. slice_get whole n ≡ Some q) at e)

-- ---- all slots

module _ (plan : StructurePlan) (names : SlotNames) (mappings : List MappingPlan) (calls : CallsApart plan names) where
  IsTree : ℕ → Type 0
  IsTree depth = (number : ℕ) (p : Pending) → IsFormed p → Each (λ (y : Slot). IsPath y.path) (subtree plan names mappings depth number p)

  forest_formed : (depth : ℕ) (tree : IsTree depth) (first : ℕ) (qs : List Pending) → Each IsFormed qs → Each (λ (y : Slot). IsPath y.path) (in_order (subtree plan names mappings depth) first qs)
  unfolding IsTree
  forest_formed depth tree first [] h = tt
  forest_formed depth tree first (q ∷ qs) h =
      each_append (λ (y : Slot). IsPath y.path) (subtree plan names mappings depth first q) (in_order (subtree plan names mappings depth) (first + length (subtree plan names mappings depth first q)) qs) (tree first q h.0)
      (forest_formed depth tree (first + length (subtree plan names mappings depth first q)) qs h.1)

  inside_formed : (depth number : ℕ) (p : Pending) → IsFormed p → Each IsFormed (inside plan names mappings depth number p)
  inside_formed depth number p h = pick (is_imported p.slot.kind)
    where
      pick : (b : Bool) → Each IsFormed (cond b [] (slots_of_references mappings (above_in depth number p) (labels_of_class names p.slot.class) (references_of_class plan p.slot.class)))
      pick true = tt
      pick false = references_formed mappings (above_in depth number p) (labels_of_class names p.slot.class) (references_of_class plan p.slot.class) (calls.classes p.slot.class) (inr (p.slot.path, h, refl))

  tree_formed : (depth : ℕ) → IsTree depth
  unfolding IsTree
  tree_formed zero = λ number p h. (h, tt)
  tree_formed (suc depth) = λ number p h. (h, forest_formed depth (tree_formed depth) (number + 1) (inside plan names mappings depth number p) (inside_formed depth number p h))

  each_all : (xs : List Slot) → Each (λ (y : Slot). IsPath y.path) xs → All (λ (y : Slot). IsPath y.path) xs
  each_all [] h = All-nil (λ (y : Slot). IsPath y.path)
  each_all (x ∷ xs) h = All-cons (λ (y : Slot). IsPath y.path) x xs h.0 (each_all xs h.1)

  pub all_formed : All (λ (x : Slot). IsPath x.path) (slots_of plan names mappings)
  unfolding slots_of
  all_formed =
      each_all (slots_of plan names mappings)
      (forest_formed (length plan.classes) (tree_formed (length plan.classes)) 0 (top_slots plan names mappings) (references_formed mappings (top plan mappings) names.subsystem plan.subsystem.references calls.subsystem (inl refl)))
