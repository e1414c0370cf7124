-- The classes of containers, and one more container.
use Rattle.std.proofs.Common.{◌≡◌, ◌≢◌, ℕ, ◌+◌, ◌-◌, ◌<◌, ◌≤◌, List, [], ◌∷◌, ◌++◌, length, suc, zero, refl, sym, ap, subst, ◌∙◌, arith, append_assoc, append-nil, Option, Some, None}
use Rattle.std.specs.Prelude.{All, slice_get, slice_index_or}
use Rattle.room_wiring.specs.declared.slot.Slot.{Slot}
use Rattle.room_wiring.specs.declared.tables.PlaceSpan.{PlaceSpan}
use Rattle.wiring_plan.specs.declared.structure_plan.plan.BindingPlan.{BindingPlan}
use Rattle.wiring_plan.specs.declared.structure_plan.plan.ClassPlan.{ClassPlan}
use Rattle.wiring_plan.specs.declared.structure_plan.plan.StructurePlan.{StructurePlan}
use Rattle.number_graphs.specs.declared.face_chains.FacePair.{FacePair}
use Rattle.number_graphs.specs.face_chains.Chains.{AreBelow}
use Rattle.wiring_places.specs.declared.binding_stretches.class.ClassStretches.{ClassStretches}
use Rattle.wiring_places.specs.declared.place_rules.stretch.Stretch.{Stretch}
use Rattle.wiring_places.specs.place_rules.Parts.{no_class, container_class, inside_of}
use Rattle.wiring_places.specs.place_rules.Stretches.{stretch, stretches, stretches_from, taken_after}
use Rattle.wiring_places.specs.place_rules.Pairs.{binding_pairs, container_pairs}
use Rattle.wiring_places.specs.place_spans.Containers.{AreStretchesFrom, AreContainers, TakesFew}
use Rattle.wiring_places.specs.place_pairs.Classes.{class_or_none}
use Rattle.wiring_places.specs.place_pairs.Fits.{EndsWithin}
use Rattle.wiring_places.proofs.binding_stretches.Growing.{ends_within}
use Rattle.wiring_places.proofs.place_pairs.BindingSteps.{below_first, below_rest}

pub get_class : (xs : List ClassPlan) (k : ℕ) → class_or_none (slice_get xs k) ≡ slice_index_or xs k no_class
get_class [] k = refl
get_class (x ∷ xs) zero = refl
get_class (x ∷ xs) (suc k) = get_class xs k

pub slot_class : (plan : StructurePlan) (slots : List Slot) (c : ℕ) → c ≢ 0 → inside_of plan (slice_get slots (c - 1)) ≡ container_class plan slots c
slot_class plan slots zero h = absurd (h refl)
slot_class plan slots (suc c) h = let e : suc c - 1 ≡ c = omega arith in ap (λ n. inside_of plan (slice_get slots n)) e

pub no_class_pairs : (slots : List Slot) (first_ports : List ℕ) (spans : List PlaceSpan) (o : Option ClassPlan) (c : ℕ) (ss : List Stretch) (done : List FacePair) → o ≡ None → done ≡ done ++ binding_pairs slots first_ports spans (class_or_none o) c (class_or_none o).bindings ss
unfolding binding_pairs
no_class_pairs slots first_ports spans None c ss done e = sym (append-nil done)
no_class_pairs slots first_ports spans (Some class) c ss done e = absurd cc

as_many : (plan : StructurePlan) (class : ClassPlan) (f : ℕ → ℕ) (bs : List BindingPlan) → length bs ≡ length (stretches_from plan class f bs)
unfolding stretches_from
as_many plan class f [] = refl
as_many plan class f (b ∷ bs) = ap suc (as_many plan class (taken_after f b (stretch plan class f b).count) bs)

there : (plan : StructurePlan) (slots : List Slot) (c k : ℕ) (ys : List ClassStretches) (y : ClassStretches) → AreStretchesFrom plan slots c ys → k < length ys → y ≡ slice_index_or ys k y → y.stretches.items ≡ stretches plan (container_class plan slots (c + k))
there plan slots c k [] y h lt e = absurd (omega arith)
there plan slots c zero (z ∷ zs) y h lt e =
    let at : c ≡ c + 0 = omega arith in
    ap (λ (x : ClassStretches). x.stretches.items) e ∙ h.0.stretches ∙ ap (λ n. stretches plan (container_class plan slots n)) at
there plan slots c (suc k) (z ∷ zs) y h lt e =
    let at : (c + 1) + k ≡ c + suc k = omega arith in
    there plan slots (c + 1) k zs y h.1 (omega arith) e ∙ ap (λ n. stretches plan (container_class plan slots n)) at

module _ (plan : StructurePlan) (slots : List Slot) (ys : List ClassStretches) (known : AreContainers plan slots ys) where
  pub these : (c : ℕ) (y : ClassStretches) → c < length ys → y ≡ slice_index_or ys c y → y.stretches.items ≡ stretches plan (container_class plan slots c)
  these c y lt e = let at : 0 + c ≡ c = omega arith in there plan slots 0 c ys y known.each lt e ∙ ap (λ n. stretches plan (container_class plan slots n)) at

  -- a container has a stretch for each binding
  pub sizes : (c : ℕ) (y : ClassStretches) (class : ClassPlan) (ss : List Stretch) → c < length ys → y ≡ slice_index_or ys c y → class ≡ container_class plan slots c → ss ≡ y.stretches.items → length class.bindings ≡ length ss
  sizes c y class ss lt e is same =
      ap (λ (d : ClassPlan). length d.bindings) is ∙ as_many plan (container_class plan slots c) (λ side. 0) (container_class plan slots c).bindings ∙ ap length (sym (same ∙ these c y lt e))

  -- the bindings of a container end within what is taken
  pub ends : (c : ℕ) (y : ClassStretches) (ss : List Stretch) → c < length ys → y ≡ slice_index_or ys c y → ss ≡ y.stretches.items → TakesFew plan slots → All EndsWithin ss
  ends c y ss lt e same few = subst (All EndsWithin) (sym (same ∙ these c y lt e)) (ends_within plan (container_class plan slots c) (container_class plan slots c).bindings (λ side. 0) (few c))

  module _ (first_ports : List ℕ) (spans : List PlaceSpan) where
    below_from : (m c n i : ℕ) → i < n → AreBelow m (container_pairs plan slots first_ports spans c n) → AreBelow m (binding_pairs slots first_ports spans (container_class plan slots (c + i)) (c + i) (container_class plan slots (c + i)).bindings (stretches plan (container_class plan slots (c + i))))
    unfolding container_pairs
    below_from m c zero i lt h = absurd (omega (arith, lt))
    below_from m c (suc n) zero lt h =
        let at : c ≡ c + 0 = omega arith in
        let Q : ℕ → Type 0 = λ k. AreBelow m (binding_pairs slots first_ports spans (container_class plan slots k) k (container_class plan slots k).bindings (stretches plan (container_class plan slots k))) in
        subst Q at (below_first m (binding_pairs slots first_ports spans (container_class plan slots c) c (container_class plan slots c).bindings (stretches plan (container_class plan slots c))) (container_pairs plan slots first_ports spans (c + 1) n) h)
    below_from m c (suc n) (suc i) lt h =
        let at : (c + 1) + i ≡ c + suc i = omega arith in
        let Q : ℕ → Type 0 = λ k. AreBelow m (binding_pairs slots first_ports spans (container_class plan slots k) k (container_class plan slots k).bindings (stretches plan (container_class plan slots k))) in
        subst Q at (below_from m (c + 1) n i (omega (arith, lt)) (below_rest m (binding_pairs slots first_ports spans (container_class plan slots c) c (container_class plan slots c).bindings (stretches plan (container_class plan slots c))) (container_pairs plan slots first_ports spans (c + 1) n) h))

    -- the pairs of a container are below what all are below
    pub container_below : (m c : ℕ) (y : ClassStretches) (class : ClassPlan) (ss : List Stretch) → c < length ys → y ≡ slice_index_or ys c y → class ≡ container_class plan slots c → ss ≡ y.stretches.items → AreBelow m (container_pairs plan slots first_ports spans 0 (length slots + 1))
        → AreBelow m (binding_pairs slots first_ports spans class c class.bindings ss)
    container_below m c y class ss lt e is same h =
        let at : 0 + c ≡ c = omega arith in
        let Q : ℕ → Type 0 = λ k. AreBelow m (binding_pairs slots first_ports spans (container_class plan slots k) k (container_class plan slots k).bindings (stretches plan (container_class plan slots k))) in
        let there = subst Q at (below_from m 0 (length slots + 1) c (omega (arith, lt, known.size)) h) in
        let R : ClassPlan → Type 0 = λ d. AreBelow m (binding_pairs slots first_ports spans d c d.bindings (stretches plan (container_class plan slots c))) in
        subst (λ zs. AreBelow m (binding_pairs slots first_ports spans class c class.bindings zs)) (sym (same ∙ these c y lt e)) (subst R (sym is) there)

    unrolled : (c n : ℕ) → 0 < n → container_pairs plan slots first_ports spans c n ≡ binding_pairs slots first_ports spans (container_class plan slots c) c (container_class plan slots c).bindings (stretches plan (container_class plan slots c)) ++ container_pairs plan slots first_ports spans (c + 1) (n - 1)
    unfolding container_pairs
    unrolled c zero pos = absurd (omega arith)
    unrolled c (suc n) pos =
        let same : n ≡ suc n - 1 = omega arith in
        ap (λ m. binding_pairs slots first_ports spans (container_class plan slots c) c (container_class plan slots c).bindings (stretches plan (container_class plan slots c)) ++ container_pairs plan slots first_ports spans (c + 1) m) same

    none_left : (c n : ℕ) → n ≡ 0 → container_pairs plan slots first_ports spans c n ≡ []
    unfolding container_pairs
    none_left c zero e = refl
    none_left c (suc n) e = absurd (omega arith)

    pub container_more : (c : ℕ) (y : ClassStretches) (class : ClassPlan) (ss : List Stretch) (done out : List FacePair) → c < length ys → y ≡ slice_index_or ys c y → class ≡ container_class plan slots c → ss ≡ y.stretches.items → out ≡ done ++ binding_pairs slots first_ports spans class c class.bindings ss
        → out ++ container_pairs plan slots first_ports spans (c + 1) ((length slots + 1) - (c + 1)) ≡ done ++ container_pairs plan slots first_ports spans c ((length slots + 1) - c)
    container_more c y class ss done out lt e is same pushed =
        let left = container_pairs plan slots first_ports spans (c + 1) ((length slots + 1) - (c + 1)) in
        let here = binding_pairs slots first_ports spans class c class.bindings ss in
        let pos : 0 < (length slots + 1) - c = omega (arith, lt, known.size) in
        let less : ((length slots + 1) - c) - 1 ≡ (length slots + 1) - (c + 1) = omega arith in
        let here_is : here ≡ binding_pairs slots first_ports spans (container_class plan slots c) c (container_class plan slots c).bindings (stretches plan (container_class plan slots c)) =
        ap (λ (d : ClassPlan). binding_pairs slots first_ports spans d c d.bindings ss) is ∙ ap (λ zs. binding_pairs slots first_ports spans (container_class plan slots c) c (container_class plan slots c).bindings zs) (same ∙ these c y lt e) in
        let first : container_pairs plan slots first_ports spans c ((length slots + 1) - c) ≡ here ++ left =
        unrolled c ((length slots + 1) - c) pos ∙ ap (λ m. binding_pairs slots first_ports spans (container_class plan slots c) c (container_class plan slots c).bindings (stretches plan (container_class plan slots c)) ++ container_pairs plan slots first_ports spans (c + 1) m) less ∙ ap (λ xs. xs ++ left) (sym here_is) in
        ap (λ xs. xs ++ left) pushed ∙ append_assoc done here left ∙ ap (λ xs. done ++ xs) (sym first)

    pub container_end : (c : ℕ) (done : List FacePair) → length ys ≤ c → done ++ container_pairs plan slots first_ports spans c ((length slots + 1) - c) ≡ done
    container_end c done le = ap (λ xs. done ++ xs) (none_left c ((length slots + 1) - c) (omega (arith, le, known.size))) ∙ append-nil done
