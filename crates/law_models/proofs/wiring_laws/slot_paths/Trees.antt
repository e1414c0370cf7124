-- All slots of a structure have different paths.
use Rattle.std.proofs.Common.{◌≡◌, ◌≢◌, ◌∙◌, ℕ, zero, suc, ◌+◌, Bool, true, false, cond, List, [], ◌∷◌, ◌++◌, length, Some, refl, sym, ap}
use Rattle.std.specs.Prelude.{slice_get}
use Rattle.room_wiring.specs.WellNamed.{NamesDiffer}
use Rattle.room_wiring.specs.declared.slot.Slot.{Slot}
use Rattle.wiring_plan.specs.declared.structure_plan.plan.StructurePlan.{StructurePlan}
use Rattle.wiring_joins.specs.slot_references.Types.{Pending}
use Rattle.wiring_slots.specs.declared.slot_tree.names.MappingPlan.{MappingPlan}
use Rattle.wiring_slots.specs.declared.slot_tree.names.SlotNames.{SlotNames}
use Rattle.wiring_slots.specs.slot_tree.Orders.{in_order}
use Rattle.room_kinds.specs.Structure.{is_imported}
use Rattle.wiring_slots.specs.slot_tree.Slots.{slots_of_references, above_in, labels_of_class, references_of_class, inside, subtree, top, top_slots, slots_of}
use Rattle.law_models.specs.wiring_laws.slot_paths.Labels.{CallsApart}
use Rattle.law_models.proofs.wiring_laws.slot_paths.Each.{Each, each_append, each_so, each_at}
use Rattle.law_models.proofs.wiring_laws.slot_paths.References.{Siblings, references_siblings}
use Rattle.law_models.proofs.wiring_laws.slot_paths.Texts.{Segment, Below, Under, below_differ, below_under, itself, inside_below, inside_differs}

-- slots with different paths
abbrev PathsApart : List Slot → Type 0
PathsApart [] = Unit {0}
PathsApart (x ∷ xs) = Each (λ (y : Slot). x.path ≢ y.path) xs × PathsApart xs

apart_append : (xs ys : List Slot) → PathsApart xs → PathsApart ys → Each (λ (x : Slot). Each (λ (y : Slot). x.path ≢ y.path) ys) xs → PathsApart (xs ++ ys)
apart_append [] ys h k cross = k
apart_append (x ∷ xs) ys h k cross = (each_append (λ (y : Slot). x.path ≢ y.path) xs ys h.0 cross.0, apart_append xs ys h.1 k cross.1)

names_differ : (xs : List Slot) → PathsApart xs → (i j : ℕ) (x y : Slot) → slice_get xs i ≡ Some x → slice_get xs j ≡ Some y → x.path ≡ y.path → i ≡ j
names_differ [] h i j x y ex ey e = absurd cc
names_differ (z ∷ zs) h zero zero x y ex ey e = refl
names_differ (z ∷ zs) h zero (suc j) x y ex ey e = let same : z ≡ x = cc in absurd (each_at (λ (w : Slot). z.path ≢ w.path) zs j y h.0 ey (ap (λ (w : Slot). w.path) same ∙ e))
names_differ (z ∷ zs) h (suc i) zero x y ex ey e = let same : z ≡ y = cc in absurd (each_at (λ (w : Slot). z.path ≢ w.path) zs i x h.0 ex (ap (λ (w : Slot). w.path) same ∙ sym e))
names_differ (z ∷ zs) h (suc i) (suc j) x y ex ey e = ap suc (names_differ zs h.1 i j x y ex ey e)

module _ (plan : StructurePlan) (names : SlotNames) (mappings : List MappingPlan) (calls : CallsApart plan names) where
  -- what holds of a slot and all that is inside
  IsTree : ℕ → Type 0
  IsTree depth = (number : ℕ) (p : Pending) → Each (λ (y : Slot). Below p.slot.path y.path) (subtree plan names mappings depth number p) × PathsApart (subtree plan names mappings depth number p)

  module _ (depth : ℕ) (tree : IsTree depth) where
    forest_under : (first : ℕ) (pre : List ℕ) (qs : List Pending) → Siblings pre qs → Each (λ (y : Slot). Under pre y.path) (in_order (subtree plan names mappings depth) first qs)
    unfolding IsTree
    forest_under first pre [] h = tt
    forest_under first pre (q ∷ qs) h =
        each_append (λ (y : Slot). Under pre y.path) (subtree plan names mappings depth first q) (in_order (subtree plan names mappings depth) (first + length (subtree plan names mappings depth first q)) qs)
        (each_so (λ (y : Slot). Below q.slot.path y.path) (λ (y : Slot). Under pre y.path) (subtree plan names mappings depth first q) (λ y below. below_under pre q.slot.path y.path h.0 below) (tree first q).0)
        (forest_under (first + length (subtree plan names mappings depth first q)) pre qs h.2)

    forest_away : (first : ℕ) (pre a : List ℕ) (qs : List Pending) → Segment pre a → Each (λ (r : Pending). a ≢ r.slot.path) qs → Siblings pre qs → Each (λ (y : Slot). (x : List ℕ) → Below a x → x ≢ y.path) (in_order (subtree plan names mappings depth) first qs)
    unfolding IsTree
    forest_away first pre a [] s away h = tt
    forest_away first pre a (q ∷ qs) s away h =
        each_append (λ (y : Slot). (x : List ℕ) → Below a x → x ≢ y.path) (subtree plan names mappings depth first q) (in_order (subtree plan names mappings depth) (first + length (subtree plan names mappings depth first q)) qs)
        (each_so (λ (y : Slot). Below q.slot.path y.path) (λ (y : Slot). (x : List ℕ) → Below a x → x ≢ y.path) (subtree plan names mappings depth first q)
        (λ y below x under. below_differ pre a q.slot.path x y.path s h.0 away.0 under below) (tree first q).0)
        (forest_away (first + length (subtree plan names mappings depth first q)) pre a qs s away.1 h.2)

    forest_apart : (first : ℕ) (pre : List ℕ) (qs : List Pending) → Siblings pre qs → PathsApart (in_order (subtree plan names mappings depth) first qs)
    unfolding IsTree
    forest_apart first pre [] h = tt
    forest_apart first pre (q ∷ qs) h =
        let next = first + length (subtree plan names mappings depth first q) in
        let away = forest_away next pre q.slot.path qs h.0 h.1 h.2 in
        apart_append (subtree plan names mappings depth first q) (in_order (subtree plan names mappings depth) next qs) (tree first q).1 (forest_apart next pre qs h.2)
        (each_so (λ (x : Slot). Below q.slot.path x.path) (λ (x : Slot). Each (λ (y : Slot). x.path ≢ y.path) (in_order (subtree plan names mappings depth) next qs)) (subtree plan names mappings depth first q)
        (λ x below. each_so (λ (y : Slot). (z : List ℕ) → Below q.slot.path z → z ≢ y.path) (λ (y : Slot). x.path ≢ y.path) (in_order (subtree plan names mappings depth) next qs) (λ y differ. differ x.path below) away) (tree first q).0)

  inside_siblings : (depth number : ℕ) (p : Pending) → Siblings (p.slot.path ++ 47 ∷ []) (inside plan names mappings depth number p)
  inside_siblings depth number p = pick (is_imported p.slot.kind)
    where
      pick : (b : Bool) → Siblings (p.slot.path ++ 47 ∷ []) (cond b [] (slots_of_references mappings (above_in depth number p) (labels_of_class names p.slot.class) (references_of_class plan p.slot.class)))
      pick true = tt
      pick false = references_siblings mappings (above_in depth number p) (labels_of_class names p.slot.class) (references_of_class plan p.slot.class) (calls.classes p.slot.class)

  is_tree : (depth : ℕ) → IsTree depth
  unfolding IsTree
  is_tree zero = λ number p. ((record { tail = []; is = itself p.slot.path; slash = tt }, tt), (tt, tt))
  is_tree (suc depth) = λ number p.
      let pre = p.slot.path ++ 47 ∷ [] in
      let qs = inside plan names mappings depth number p in
      let forest = in_order (subtree plan names mappings depth) (number + 1) qs in
      let siblings = inside_siblings depth number p in
      let under = forest_under depth (is_tree depth) (number + 1) pre qs siblings in (
        (record { tail = []; is = itself p.slot.path; slash = tt }, each_so (λ (y : Slot). Under pre y.path) (λ (y : Slot). Below p.slot.path y.path) forest (λ y u. inside_below p.slot.path y.path u) under),
        (each_so (λ (y : Slot). Under pre y.path) (λ (y : Slot). p.slot.path ≢ y.path) forest (λ y u. inside_differs p.slot.path y.path u) under, forest_apart depth (is_tree depth) (number + 1) pre qs siblings),
      )

  pub all_differ : NamesDiffer (λ (x : Slot). x.path) (slots_of plan names mappings)
  unfolding slots_of
  all_differ =
      let siblings = references_siblings mappings (top plan mappings) names.subsystem plan.subsystem.references calls.subsystem in
      let apart = forest_apart (length plan.classes) (is_tree (length plan.classes)) 0 [] (top_slots plan names mappings) siblings in
      λ i j x y ex ey e. names_differ (slots_of plan names mappings) apart i j x y ex ey e
