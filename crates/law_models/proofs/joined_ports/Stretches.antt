-- The two faces of a pair that bindings make are those of places of the two sides of one binding.
use Rattle.std.proofs.Common.{◌≡◌, ◌⊎◌, inl, inr, ℕ, zero, suc, ◌+◌, ◌<◌, ◌≤◌, Bool, true, false, cond, ◌==◌, List, [], ◌∷◌, ◌++◌, refl, subst, arith}
use Rattle.std.specs.List.{AllByRecursion as Each}
use Rattle.room_wiring.specs.declared.slot.Slot.{Slot}
use Rattle.wiring_plan.specs.declared.structure_plan.plan.BindingPlan.{BindingPlan}
use Rattle.wiring_plan.specs.declared.structure_plan.plan.ClassPlan.{ClassPlan}
use Rattle.wiring_plan.specs.declared.structure_plan.plan.SidePlan.{SidePlan}
use Rattle.wiring_plan.specs.declared.structure_plan.plan.StructurePlan.{StructurePlan}
use Rattle.number_graphs.specs.declared.face_chains.FacePair.{FacePair}
use Rattle.number_graphs.specs.face_chains.Chains.{IsPair, IsPaired}
use Rattle.wiring_places.specs.declared.place_rules.place.LayerJoin.{LayerJoin}
use Rattle.wiring_places.specs.declared.place_rules.stretch.Stretch.{Stretch}
use Rattle.wiring_places.specs.place_rules.Parts.{container_class}
use Rattle.wiring_places.specs.place_rules.Stretches.{side_number, supply, pair_count, stretch, take_more, taken_after, stretches_from, taken_from, none_taken, stretches, all_taken}
use Rattle.wiring_places.specs.place_rules.Counts.{counts, spans_from, first_ports_from}
use Rattle.wiring_places.specs.place_rules.Pairs.{side_face, stretch_pair, stretch_pairs, binding_pairs, container_pairs}
use Rattle.wiring_joins.specs.place_faces.SlotsOf.{AreSlotsOf}
use Rattle.wiring_joins.proofs.place_faces.Uses.{Uses, side_use}
use Rattle.wiring_joins.proofs.place_faces.Containers.{pair_within}
use Rattle.wiring_places.proofs.binding_stretches.Growing.{right_after, left_after, take_grows}

pub paired_either : (xs ys : List FacePair) (f g : ℕ) → IsPaired (xs ++ ys) f g → IsPaired xs f g ⊎ IsPaired ys f g
paired_either [] ys f g h = inr h
paired_either (x ∷ xs) ys f g (inl e) = inl (inl e)
paired_either (x ∷ xs) ys f g (inr h) = elim (paired_either xs ys f g h) [
  | inl a ↦ inl (inr a)
  | inr b ↦ inr b
]

-- ---- what is taken

taken_grows : (plan : StructurePlan) (class : ClassPlan) (bs : List BindingPlan) (taken : ℕ → ℕ) (side : ℕ) → taken side ≤ taken_from plan class taken bs side
unfolding taken_from
taken_grows plan class [] taken side = omega arith
taken_grows plan class (b ∷ bs) taken side =
    let n = (stretch plan class taken b).count in
    let one = take_grows taken (side_number b.left) n side in
    let two = take_grows (take_more taken (side_number b.left) n) (side_number b.right) n side in
    let more = taken_grows plan class bs (taken_after taken b n) side in
    omega (arith, one, two, more)

-- ---- a stretch's places are those of its sides

counted : (same : Bool) (k many : ℕ) → k < cond same 0 many → cond same 0 many ≡ many
counted true k many less = absurd (omega (arith, less))
counted false k many less = refl

pairs_counted : (plan : StructurePlan) (class : ClassPlan) (taken : ℕ → ℕ) (b : BindingPlan) (k : ℕ) → k < (stretch plan class taken b).count
    → (stretch plan class taken b).count ≡ pair_count (supply plan class b.left) (taken (side_number b.left)) (supply plan class b.right) (taken (side_number b.right))
pairs_counted plan class taken b k lt = counted (side_number b.left == side_number b.right) k _ lt

-- two faces are those of places of the sides of a container's binding, of which this is so
pub record OfBinding (plan : StructurePlan) (slots : List Slot) (joins : List LayerJoin) (P : ℕ → BindingPlan → Type 0) (f g : ℕ) : Type 0 where
  pub c : ℕ
  pub b : BindingPlan
  pub so : P c b
  pub i : ℕ
  pub j : ℕ
  pub left : Uses plan slots joins c b.left i f
  pub right : Uses plan slots joins c b.right j g

module _ (plan : StructurePlan) (slots : List Slot) (joins : List LayerJoin) (are : AreSlotsOf plan slots) (P : ℕ → BindingPlan → Type 0) where
  abbrev InOrder : ℕ → ℕ → Type 0
  InOrder f g = OfBinding plan slots joins P f g ⊎ OfBinding plan slots joins P g f

  module _ (c : ℕ) where
    abbrev class : ClassPlan
    class = container_class plan slots c

    abbrev face_of : SidePlan → ℕ → ℕ
    face_of = side_face slots (first_ports_from plan 0 slots) (spans_from 0 (counts plan slots joins)) class c

    abbrev pairs_of_stretch : BindingPlan → Stretch → ℕ → ℕ → List FacePair
    pairs_of_stretch = stretch_pairs slots (first_ports_from plan 0 slots) (spans_from 0 (counts plan slots joins)) class c

    abbrev pairs_of_bindings : List BindingPlan → List Stretch → List FacePair
    pairs_of_bindings = binding_pairs slots (first_ports_from plan 0 slots) (spans_from 0 (counts plan slots joins)) class c

    module _ (taken : ℕ → ℕ) (b : BindingPlan) (so : P c b) (part : (side : ℕ) → taken_after taken b (stretch plan class taken b).count side ≤ all_taken plan class side) where
      abbrev here : Stretch
      here = stretch plan class taken b

      -- the pair at k
      pair_at : (k : ℕ) → k < here.count → OfBinding plan slots joins P (face_of b.left (here.left + k)) (face_of b.right (here.right + k))
      pair_at k lt =
          let many = pairs_counted plan class taken b k lt in
          let left = left_after taken b here.count in
          let right = right_after taken b here.count in
          let left_part = part (side_number b.left) in
          let right_part = part (side_number b.right) in
          let both = pair_within (supply plan class b.left) (supply plan class b.right) (taken (side_number b.left)) (taken (side_number b.right))
          (all_taken plan class (side_number b.left)) (all_taken plan class (side_number b.right)) k (omega (arith, lt, many)) (omega (arith, many, left, left_part)) (omega (arith, many, right, right_part)) in
          record {
            c = c;
            b = b;
            so = so;
            i = here.left + k;
            j = here.right + k;
            left = side_use plan slots joins are c b.left (here.left + k) (face_of b.left (here.left + k)) both.0 refl;
            right = side_use plan slots joins are c b.right (here.right + k) (face_of b.right (here.right + k)) both.1 refl;
          }

      one_pair : (k f g : ℕ) → k < here.count
          → IsPair (stretch_pair slots (first_ports_from plan 0 slots) (spans_from 0 (counts plan slots joins)) class c b here k) f g → InOrder f g
      one_pair k f g lt (inl e) =
          inl (subst (λ z. OfBinding plan slots joins P f z) e.1 (subst (λ z. OfBinding plan slots joins P z (face_of b.right (here.right + k))) e.0 (pair_at k lt)))
      one_pair k f g lt (inr e) =
          inr (subst (λ z. OfBinding plan slots joins P g z) e.1 (subst (λ z. OfBinding plan slots joins P z (face_of b.right (here.right + k))) e.0 (pair_at k lt)))

      stretch_paired : (k n f g : ℕ) → k + n ≤ here.count → IsPaired (pairs_of_stretch b here k n) f g → InOrder f g
      unfolding stretch_pairs
      stretch_paired k zero f g le h = absurd h
      stretch_paired k (suc n) f g le (inl e) = one_pair k f g (omega (arith, le)) e
      stretch_paired k (suc n) f g le (inr h) = stretch_paired (k + 1) n f g (omega (arith, le)) h

    bindings_paired : (bs : List BindingPlan) (taken : ℕ → ℕ) → Each (P c) bs → ((side : ℕ) → taken_from plan class taken bs side ≤ all_taken plan class side)
        → (f g : ℕ) → IsPaired (pairs_of_bindings bs (stretches_from plan class taken bs)) f g → InOrder f g
    unfolding binding_pairs stretches_from taken_from
    bindings_paired [] taken each part f g h = absurd h
    bindings_paired (b ∷ bs) taken each part f g h =
        let s = stretch plan class taken b in
        let after = taken_after taken b s.count in
        elim (paired_either (pairs_of_stretch b s 0 s.count) (pairs_of_bindings bs (stretches_from plan class after bs)) f g h) [
          | inl a ↦ stretch_paired taken b each.0 (λ side. let grows = taken_grows plan class bs after side in let all = part side in omega (arith, grows, all)) 0 s.count f g (omega arith) a
          | inr a ↦ bindings_paired bs after each.1 part f g a
        ]

  -- each pair of the bindings of containers is one of a binding's sides
  pub containers_paired : ((c : ℕ) → Each (P c) (container_class plan slots c).bindings) → (n c f g : ℕ)
      → IsPaired (container_pairs plan slots (first_ports_from plan 0 slots) (spans_from 0 (counts plan slots joins)) c n) f g → InOrder f g
  unfolding container_pairs
  containers_paired each zero c f g h = absurd h
  containers_paired each (suc n) c f g h = elim (paired_either (pairs_of_bindings c (class c).bindings (stretches plan (class c))) _ f g h) [
    | inl a ↦ bindings_paired c (class c).bindings none_taken (each c) (λ side. omega arith) f g a
    | inr a ↦ containers_paired each n (c + 1) f g a
  ]
