-- The slots of a structure in which no class contains itself stand for its references.
use Rattle.std.proofs.Common.{◌≡◌, ◌≢◌, ◌∙◌, ◌⊎◌, inl, inr, ℕ, zero, suc, ◌+◌, ◌<◌, ◌≤◌, Bool, true, false, cond, ◌==◌, List, [], ◌∷◌, ◌++◌, length, map, Option, Some, None, slice_get, slice_index_or, count_by, refl, sym, ap, subst, arith, eq-eqb, ne_eqb}
use Rattle.std.specs.Prelude.{◌&&◌}
use Rattle.std.specs.List.{list_any}
use Rattle.std.specs.Option.{option_map_or}
use Rattle.std.proofs.lemmas.Bool.{or_parts}
use Rattle.std.proofs.lemmas.Option.{same_Some, slice_get_within}
use Rattle.std.proofs.lemmas.List.{length-map}
use Rattle.room_wiring.specs.declared.slot.Slot.{Slot}
use Rattle.wiring_plan.specs.declared.structure_plan.plan.ClassPlan.{ClassPlan}
use Rattle.wiring_plan.specs.declared.structure_plan.plan.ReferencePlan.{ReferencePlan}
use Rattle.wiring_plan.specs.declared.structure_plan.plan.StructurePlan.{StructurePlan}
use Rattle.number_graphs.specs.class_containment.Containment.{has_chain, contains_itself}
use Rattle.room_kinds.specs.Structure.{is_imported}
use Rattle.wiring_places.specs.place_rules.Parts.{no_class, class_plan, container_of, container_class, inside_of, is_child, children}
use Rattle.wiring_joins.specs.place_faces.SlotsOf.{StandsFor}
use Rattle.wiring_joins.proofs.place_faces.Rows.{get_left, get_right}
use Rattle.wiring_joins.specs.slot_references.Types.{Pending}
use Rattle.wiring_slots.specs.declared.slot_tree.names.MappingPlan.{MappingPlan}
use Rattle.wiring_slots.specs.declared.slot_tree.names.SlotNames.{SlotNames}
use Rattle.wiring_slots.specs.slot_tree.Orders.{in_order}
use Rattle.wiring_slots.specs.slot_tree.Slots.{pending_at, slots_of_references, above_in, labels_of_class, references_of_class, inside, subtree, top, top_slots, slots_of}
use Rattle.wiring_joins.specs.slot_references.Referred.{reference_classes, IsFinite, StandForReferences}
use Rattle.wiring_joins.proofs.slot_references.Counting.{get_either, count_append, count_cons, count_none, children_many, any_fails}
use Rattle.wiring_joins.proofs.slot_references.Inside.{reference_count, Refers, WaitsIn, is_of, references_counted, references_hold, references_wait}

-- the references inside a slot
abbrev inside_references : StructurePlan → Slot → List ReferencePlan
inside_references plan x = (inside_of plan (Some x)).references

-- how many slots of these stand for a reference of a container
abbrev many : ℕ → ℕ → List Slot → ℕ
many c r xs = count_by (is_child c r) xs

other_container : (c r : ℕ) (x : Slot) → container_of x ≢ c → is_child c r x ≡ false
other_container c r x ne = ap (λ b. b && (x.reference == r)) (ne_eqb (container_of x) c ne)

this_container : (c r : ℕ) (x : Slot) → container_of x ≡ c → is_child c r x ≡ (x.reference == r)
this_container c r x e = ap (λ b. b && (x.reference == r)) (eq-eqb (container_of x) c e)

-- the slots, numbered from n on, that stand in a container for its references, and all inside them
pub record IsInside (plan : StructurePlan) (n c : ℕ) (rs : List ReferencePlan) (xs : List Slot) : Type 0 where
  -- each reference of a slot has as many slots as it says
  pub counted : (i : ℕ) (x : Slot) (r : ℕ) → slice_get xs i ≡ Some x → many (n + i + 1) r xs ≡ reference_count (inside_references plan x) r
  -- each stands for a reference of the container or of a slot
  pub stands : (i : ℕ) (x : Slot) → slice_get xs i ≡ Some x → ((container_of x ≡ c) × Refers rs x) ⊎ ((j : ℕ) × (y : Slot) × (container_of x ≡ n + j + 1) × (slice_get xs j ≡ Some y) × Refers (inside_references plan y) x)

module _ (plan : StructurePlan) where
  -- none of them stands in a container that is none of them
  none_elsewhere : (n c : ℕ) (rs : List ReferencePlan) (xs : List Slot) → IsInside plan n c rs xs → (d r : ℕ) → c ≢ d → ((j : ℕ) → j < length xs → n + j + 1 ≢ d) → many d r xs ≡ 0
  none_elsewhere n c rs xs is d r ne outside = count_none (is_child d r) xs each
    where
      each : (i : ℕ) (x : Slot) → slice_get xs i ≡ Some x → is_child d r x ≡ false
      each i x e = other_container d r x (elim (is.stands i x e) [
        | inl a ↦ λ at. ne (sym a.0 ∙ at)
        | inr b ↦ λ at. outside b.0 (slice_get_within xs b.0 b.1 b.3) (sym b.2 ∙ at)
      ])

  inside_both : (n c : ℕ) (rs : List ReferencePlan) (xs ys : List Slot) → c ≤ n → IsInside plan n c rs xs → IsInside plan (n + length xs) c rs ys → IsInside plan n c rs (xs ++ ys)
  inside_both n c rs xs ys le here more = record { counted = counted; stands = stands }
    where
      counted : (i : ℕ) (x : Slot) (r : ℕ) → slice_get (xs ++ ys) i ≡ Some x → many (n + i + 1) r (xs ++ ys) ≡ reference_count (inside_references plan x) r
      counted i x r e = elim (get_either xs ys i x e) [
        | inl a ↦
            let within = slice_get_within xs i x a in
            let both = count_append (is_child (n + i + 1) r) xs ys in
            let one = here.counted i x r a in
            let none = none_elsewhere (n + length xs) c rs ys more (n + i + 1) r (λ at. omega (arith, at, le)) (λ j lt at. omega (arith, at, within)) in
            omega (arith, both, one, none)
        | inr b ↦
            let at = b.1 in
            let both = count_append (is_child (n + i + 1) r) xs ys in
            let none = none_elsewhere n c rs xs here (n + i + 1) r (λ eq. omega (arith, eq, le)) (λ j lt eq. omega (arith, eq, lt, at)) in
            let number : (n + length xs) + b.0 + 1 ≡ n + i + 1 = omega (arith, at) in
            let one = ap (λ d. many d r ys) (sym number) ∙ more.counted b.0 x r b.2 in
            omega (arith, both, one, none)
      ]

      stands : (i : ℕ) (x : Slot) → slice_get (xs ++ ys) i ≡ Some x → ((container_of x ≡ c) × Refers rs x) ⊎ ((j : ℕ) × (y : Slot) × (container_of x ≡ n + j + 1) × (slice_get (xs ++ ys) j ≡ Some y) × Refers (inside_references plan y) x)
      stands i x e = elim (get_either xs ys i x e) [
        | inl a ↦ elim (here.stands i x a) [
          | inl s ↦ inl s
          | inr s ↦ inr (s.0, s.1, s.2, get_left xs ys s.0 s.1 s.3, s.4)
        ]
        | inr b ↦ elim (more.stands b.0 x b.2) [
          | inl s ↦ inl s
          | inr s ↦ inr (length xs + s.0, s.1, s.2 ∙ omega arith, get_right xs ys s.0 ∙ s.3, s.4)
        ]
      ]

  inside_none : (n c : ℕ) (rs : List ReferencePlan) → IsInside plan n c rs []
  inside_none n c rs = record { counted = λ i x r e. absurd cc; stands = λ i x e. absurd cc }

  -- a slot and what is inside
  inside_root : (n c : ℕ) (rs : List ReferencePlan) (x : Slot) (xs : List Slot) → c ≤ n → container_of x ≡ c → Refers rs x → IsInside plan (n + 1) (n + 1) (inside_references plan x) xs → ((r : ℕ) → many (n + 1) r xs ≡ reference_count (inside_references plan x) r)
      → IsInside plan n c rs (x ∷ xs) × ((r : ℕ) → many c r (x ∷ xs) ≡ cond (x.reference == r) 1 0)
  inside_root n c rs x xs le at refers more children_counted = (record { counted = counted; stands = stands }, roots)
    where
      root_not : (d r : ℕ) → c ≢ d → ◌≡◌ {A = ℕ} (cond (is_child d r x) 1 0) 0
      root_not d r ne = ap {B = ℕ} (λ b. cond b 1 0) (other_container d r x (λ e. ne (sym at ∙ e)))

      counted : (i : ℕ) (y : Slot) (r : ℕ) → slice_get (x ∷ xs) i ≡ Some y → many (n + i + 1) r (x ∷ xs) ≡ reference_count (inside_references plan y) r
      counted zero y r e =
          let both = count_cons (is_child (n + 0 + 1) r) x xs in
          let none = root_not (n + 0 + 1) r (λ eq. omega (arith, eq, le)) in
          let number : n + 1 ≡ n + 0 + 1 = omega arith in
          let one = ap (λ d. many d r xs) (sym number) ∙ children_counted r in
          let same = ap (λ (z : Slot). reference_count (inside_references plan z) r) (same_Some x y e) in
          omega (arith, both, none, one, same)
      counted (suc i) y r e =
          let both = count_cons (is_child (n + suc i + 1) r) x xs in
          let none = root_not (n + suc i + 1) r (λ eq. omega (arith, eq, le)) in
          let number : (n + 1) + i + 1 ≡ n + suc i + 1 = omega arith in
          let one = ap (λ d. many d r xs) (sym number) ∙ more.counted i y r e in
          omega (arith, both, none, one)

      stands : (i : ℕ) (y : Slot) → slice_get (x ∷ xs) i ≡ Some y → ((container_of y ≡ c) × Refers rs y) ⊎ ((j : ℕ) × (z : Slot) × (container_of y ≡ n + j + 1) × (slice_get (x ∷ xs) j ≡ Some z) × Refers (inside_references plan z) y)
      stands zero y e = let same = same_Some x y e in inl (ap container_of (sym same) ∙ at, subst (Refers rs) same refers)
      stands (suc i) y e = elim (more.stands i y e) [
        | inl s ↦ inr (0, x, s.0 ∙ omega arith, refl, s.1)
        | inr s ↦ inr (suc s.0, s.1, s.2 ∙ omega arith, s.3, s.4)
      ]

      roots : (r : ℕ) → many c r (x ∷ xs) ≡ cond (x.reference == r) 1 0
      roots r =
          let both = count_cons (is_child c r) x xs in
          let here = ap {B = ℕ} (λ b. cond b 1 0) (this_container c r x at) in
          let none = none_elsewhere (n + 1) (n + 1) (inside_references plan x) xs more c r (λ eq. omega (arith, eq, le)) (λ j lt eq. omega (arith, eq, le)) in
          omega (arith, both, here, none)

-- ---- references and depth

same_references : (cs : List ClassPlan) (n : ℕ) → option_map_or (λ (c : ClassPlan). c.references) (slice_get cs n) [] ≡ (slice_index_or cs n no_class).references
same_references [] n = refl
same_references (c ∷ cs) zero = refl
same_references (c ∷ cs) (suc n) = same_references cs n

parts_at : (cs : List ClassPlan) (n : ℕ) → slice_index_or (map reference_classes cs) n [] ≡ reference_classes (slice_index_or cs n no_class)
parts_at [] n = refl
parts_at (c ∷ cs) zero = refl
parts_at (c ∷ cs) (suc n) = parts_at cs n

none_left : (rs : List ReferencePlan) → list_any (λ (j : ℕ). true) (map (λ (r : ReferencePlan). r.class) rs) ≡ false → rs ≡ []
none_left [] e = refl
none_left (r ∷ rs) e = absurd cc

module _ (plan : StructurePlan) (names : SlotNames) (mappings : List MappingPlan) where
  abbrev all_parts : List (List ℕ)
  all_parts = map reference_classes plan.classes

  -- no chain of so many references begins at a class
  abbrev IsShallow : ℕ → ℕ → Type 0
  IsShallow d class = has_chain d all_parts class ≡ false

  -- a slot waits in a container, and isn't deep
  pub record Waits (d c : ℕ) (rs : List ReferencePlan) (p : Pending) : Type 0 where
    pub waits : WaitsIn c rs p
    pub shallow : IsShallow d p.slot.class

  abbrev AllWait : ℕ → ℕ → List ReferencePlan → List Pending → Type 0
  AllWait d c rs ps = (k : ℕ) (p : Pending) → slice_get ps k ≡ Some p → Waits d c rs p

  -- the slots that wait, each with all inside
  order_inside : (make : ℕ → Pending → List Slot) (d c : ℕ) (rs : List ReferencePlan) → ((n : ℕ) (p : Pending) → c ≤ n → Waits d c rs p → IsInside plan n c rs (make n p) × ((r : ℕ) → many c r (make n p) ≡ cond (p.slot.reference == r) 1 0)) → (n : ℕ) (ps : List Pending) → c ≤ n → AllWait d c rs ps
      → IsInside plan n c rs (in_order make n ps) × ((r : ℕ) → many c r (in_order make n ps) ≡ count_by (is_of r) ps)
  order_inside make d c rs each n [] le all = (inside_none plan n c rs, λ r. refl)
  order_inside make d c rs each n (p ∷ ps) le all =
      let here = each n p le (all 0 p refl) in
      let more = order_inside make d c rs each (n + length (make n p)) ps (omega (arith, le)) (λ k q e. all (suc k) q e) in (
        inside_both plan n c rs (make n p) (in_order make (n + length (make n p)) ps) le here.0 more.0,
        λ r.
            let both = count_append (is_child c r) (make n p) (in_order make (n + length (make n p)) ps) in
            let one = here.1 r in
            let rest = more.1 r in
            let split = count_cons (is_of r) p ps in
            omega (arith, both, one, rest, split),
      )

  shallow_part : (d class k : ℕ) (q : ReferencePlan) → IsShallow (suc d) class → slice_get (references_of_class plan class) k ≡ Some q → IsShallow d q.class
  shallow_part d class k q h e =
      let parts = parts_at plan.classes class in
      let test = has_chain d all_parts in
      let none : list_any test (map (λ (r : ReferencePlan). r.class) (class_plan plan class).references) ≡ false = ap (list_any test) (sym parts) ∙ h in
      any_fails (λ (r : ReferencePlan). r.class) test (class_plan plan class).references none k q (ap (λ rs. slice_get rs k) (sym (same_references plan.classes class)) ∙ e)

  -- what waits inside a slot
  inside_waits : (d n : ℕ) (p : Pending) → IsShallow (suc (suc d)) p.slot.class → AllWait (suc d) (n + 1) (inside_references plan p.slot) (inside plan names mappings d n p) × ((r : ℕ) → count_by (is_of r) (inside plan names mappings d n p) ≡ reference_count (inside_references plan p.slot) r)
  unfolding pending_at
  inside_waits d n p shallow = pick (is_imported p.slot.kind)
    where
      pick : (b : Bool)
          → AllWait (suc d) (n + 1) (cond b no_class (class_plan plan p.slot.class)).references (cond b [] (slots_of_references mappings (above_in d n p) (labels_of_class names p.slot.class) (references_of_class plan p.slot.class)))
          × ((r : ℕ) → count_by (is_of r) (cond b [] (slots_of_references mappings (above_in d n p) (labels_of_class names p.slot.class) (references_of_class plan p.slot.class))) ≡ reference_count (cond b no_class (class_plan plan p.slot.class)).references r)
      pick true = (λ k q at. absurd cc, λ r. refl)
      pick false =
          let same = same_references plan.classes p.slot.class in
          let above = above_in d n p in
          let labels = labels_of_class names p.slot.class in (
            λ k q at.
                let waits = references_wait mappings above labels (references_of_class plan p.slot.class) k q at in
                let Q : List ReferencePlan → Type 0 = λ rs. WaitsIn (n + 1) rs q in
                record { waits = subst Q same waits; shallow = references_hold mappings above labels (λ (z : Pending). IsShallow (suc d) z.slot.class) (references_of_class plan p.slot.class) deep k q at },
            λ r. references_counted mappings above labels (references_of_class plan p.slot.class) r ∙ ap (λ rs. reference_count rs r) same,
          )
        where
          deep : (r : ℕ) (q : ReferencePlan) (i : ℕ) → slice_get (references_of_class plan p.slot.class) r ≡ Some q → IsShallow (suc d) (pending_at mappings (above_in d n p) (labels_of_class names p.slot.class) r q i).slot.class
          deep r q i at = shallow_part (suc d) p.slot.class r q shallow at

  -- a slot that isn't deep, and all inside
  subtree_inside : (d c : ℕ) (rs : List ReferencePlan) (n : ℕ) (p : Pending) → c ≤ n → Waits (suc d) c rs p → IsInside plan n c rs (subtree plan names mappings d n p) × ((r : ℕ) → many c r (subtree plan names mappings d n p) ≡ cond (p.slot.reference == r) 1 0)
  subtree_inside zero c rs n p le w = inside_root plan n c rs p.slot [] le w.waits.container w.waits.refers (inside_none plan (n + 1) (n + 1) (inside_references plan p.slot)) (λ r. sym (none r))
    where
      empty : (class_plan plan p.slot.class).references ≡ []
      empty = none_left (class_plan plan p.slot.class).references (ap (list_any (has_chain 0 all_parts)) (sym (parts_at plan.classes p.slot.class)) ∙ w.shallow)

      none : (r : ℕ) → reference_count (inside_references plan p.slot) r ≡ 0
      none r = pick (is_imported p.slot.kind)
        where
          pick : (b : Bool) → reference_count (cond b no_class (class_plan plan p.slot.class)).references r ≡ 0
          pick true = refl
          pick false = ap (λ qs. reference_count qs r) empty
  subtree_inside (suc d) c rs n p le w =
      let waiting = inside_waits d n p w.shallow in
      let inner = order_inside (subtree plan names mappings d) (suc d) (n + 1) (inside_references plan p.slot) (λ m q less wq. subtree_inside d (n + 1) (inside_references plan p.slot) m q less wq) (n + 1) (inside plan names mappings d n p) (omega arith) waiting.0 in
      inside_root plan n c rs p.slot (in_order (subtree plan names mappings d) (n + 1) (inside plan names mappings d n p)) le w.waits.container w.waits.refers inner.0 (λ r. inner.1 r ∙ waiting.1 r)

  -- where no class contains itself, no chain has more references than there are classes
  shallow_all : IsFinite plan → (class : ℕ) → IsShallow (suc (length plan.classes)) class
  unfolding contains_itself
  shallow_all finite class = ap (λ n. has_chain (suc n) all_parts class) (sym (length-map plan.classes reference_classes)) ∙ one_fails (list_any (has_chain (length all_parts) all_parts)) all_parts class refl finite
    where
      one_fails : (test : List ℕ → Bool) (cs : List (List ℕ)) (i : ℕ) → test [] ≡ false → list_any test cs ≡ false → test (slice_index_or cs i []) ≡ false
      one_fails test [] i e h = e
      one_fails test (x ∷ xs) zero e h = (or_parts (test x) (list_any test xs) h).0
      one_fails test (x ∷ xs) (suc i) e h = one_fails test xs i e (or_parts (test x) (list_any test xs) h).1

  slots_inside : IsFinite plan → IsInside plan 0 0 plan.subsystem.references (slots_of plan names mappings) × ((r : ℕ) → many 0 r (slots_of plan names mappings) ≡ reference_count plan.subsystem.references r)
  unfolding slots_of
  slots_inside finite =
      let above = top plan mappings in
      let all : AllWait (suc (length plan.classes)) 0 plan.subsystem.references (top_slots plan names mappings) = λ k p e. record { waits = references_wait mappings above names.subsystem plan.subsystem.references k p e; shallow = shallow_all finite p.slot.class } in
      let whole = order_inside (subtree plan names mappings (length plan.classes)) (suc (length plan.classes)) 0 plan.subsystem.references (λ n p le w. subtree_inside (length plan.classes) 0 plan.subsystem.references n p le w) 0 (top_slots plan names mappings) (omega arith) all in
      (whole.0, λ r. whole.1 r ∙ references_counted mappings above names.subsystem plan.subsystem.references r)

  pub slots_stand : IsFinite plan → StandForReferences plan (slots_of plan names mappings)
  slots_stand finite = record { stands = stands; counted = counted }
    where
      stands : (s : ℕ) (x : Slot) → slice_get (slots_of plan names mappings) s ≡ Some x → StandsFor plan (slots_of plan names mappings) x
      stands s x e = elim ((slots_inside finite).0.stands s x e) [
        | inl a ↦
            let container = ap (λ c. slice_get (container_class plan (slots_of plan names mappings) c).references x.reference) a.0 in
            record { reference = a.1.0; named = container ∙ a.1.1; class = a.1.2; kind = a.1.3 }
        | inr b ↦
            let number : container_of x ≡ suc b.0 = b.2 ∙ omega arith in
            let container = ap (λ c. slice_get (container_class plan (slots_of plan names mappings) c).references x.reference) number in
            let within = ap (λ o. slice_get (inside_of plan o).references x.reference) b.3 in
            record { reference = b.4.0; named = container ∙ within ∙ b.4.1; class = b.4.2; kind = b.4.3 }
      ]

      counted : (c r : ℕ) (reference : ReferencePlan) → slice_get (container_class plan (slots_of plan names mappings) c).references r ≡ Some reference → length (children (slots_of plan names mappings) c r) ≡ reference.count
      counted zero r reference e = children_many 0 r 0 (slots_of plan names mappings) ∙ (slots_inside finite).1 r ∙ ap (λ o. option_map_or (λ (q : ReferencePlan). q.count) o 0) e
      counted (suc s) r reference e = go (slice_get (slots_of plan names mappings) s) refl e
        where
          go : (found : Option Slot) → slice_get (slots_of plan names mappings) s ≡ found → slice_get (inside_of plan found).references r ≡ Some reference → length (children (slots_of plan names mappings) (suc s) r) ≡ reference.count
          go None at is = absurd cc
          go (Some x) at is =
              let number : suc s ≡ 0 + s + 1 = omega arith in
              children_many (suc s) r 0 (slots_of plan names mappings) ∙ ap (λ c. many c r (slots_of plan names mappings)) number ∙ (slots_inside finite).0.counted s x r at ∙ ap (λ o. option_map_or (λ (q : ReferencePlan). q.count) o 0) is
