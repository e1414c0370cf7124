-- The pairs of the bindings of containers are a matching.
use Rattle.std.proofs.Common.{◌≡◌, ◌≢◌, ◌∙◌, ◌⊎◌, inl, inr, ℕ, zero, suc, ◌+◌, ◌<◌, ◌≤◌, Bool, true, false, cond, ◌==◌, List, [], ◌∷◌, refl, sym, ap, subst, arith}
use Rattle.std.proofs.lemmas.Bool.{eqb-false}
use Rattle.room_wiring.specs.declared.slot.Slot.{Slot}
use Rattle.wiring_plan.specs.declared.structure_plan.plan.SidePlan.{SidePlan}
use Rattle.wiring_plan.specs.declared.structure_plan.plan.BindingPlan.{BindingPlan}
use Rattle.wiring_plan.specs.declared.structure_plan.plan.ClassPlan.{ClassPlan}
use Rattle.wiring_plan.specs.declared.structure_plan.plan.StructurePlan.{StructurePlan}
use Rattle.number_graphs.specs.declared.face_chains.FacePair.{FacePair}
use Rattle.number_graphs.specs.face_chains.Chains.{IsMatching}
use Rattle.number_graphs.specs.face_matchings.Faces.{HasFace, AreApart}
use Rattle.number_graphs.proofs.face_matchings.Matchings.{has_either, matching_both, matching_more}
use Rattle.wiring_places.specs.declared.place_rules.place.LayerJoin.{LayerJoin}
use Rattle.wiring_places.specs.declared.place_rules.stretch.Stretch.{Stretch}
use Rattle.wiring_places.specs.declared.place_rules.stretch.Supply.{Supply}
use Rattle.wiring_places.specs.declared.place_rules.stretch.Supply.TheVariants.{Limited, Growing}
use Rattle.wiring_places.specs.place_rules.Parts.{container_class}
use Rattle.wiring_places.specs.place_rules.Stretches.{side_number, supply, pair_count, stretch, taken_after, stretches_from, taken_from, none_taken, stretches, all_taken}
use Rattle.wiring_places.specs.place_rules.Counts.{counts, spans_from, first_ports_from}
use Rattle.wiring_places.specs.place_rules.Pairs.{side_face, stretch_pair, stretch_pairs, binding_pairs, container_pairs}
use Rattle.wiring_places.proofs.binding_stretches.Growing.{after_grows, taken_grows, left_after, right_after}
use Rattle.wiring_joins.specs.place_faces.SlotsOf.{AreSlotsOf}
use Rattle.wiring_joins.proofs.place_faces.Uses.{IsWithin, Uses, same_use, side_use}

-- ---- a stretch's places are those of its sides

pub pair_within : (a b : Supply) (i j most other k : ℕ) → k < pair_count a i b j → i + pair_count a i b j ≤ most → j + pair_count a i b j ≤ other → IsWithin a most (i + k) × IsWithin b other (j + k)
pair_within (Limited m) (Limited n) i j most other k lt le le' = (omega (arith, lt), omega (arith, lt))
pair_within (Limited m) Growing i j most other k lt le le' = (omega (arith, lt), omega (arith, lt, le'))
pair_within Growing (Limited n) i j most other k lt le le' = (omega (arith, lt, le), omega (arith, lt))
pair_within Growing Growing i j most other k lt le le' = absurd (omega (arith, lt))

-- a binding that pairs something has two sides
two_sides : (plan : StructurePlan) (class : ClassPlan) (taken : ℕ → ℕ) (b : BindingPlan) (k : ℕ) → k < (stretch plan class taken b).count
    → (side_number b.left ≢ side_number b.right) × ((stretch plan class taken b).count ≡ pair_count (supply plan class b.left) (taken (side_number b.left)) (supply plan class b.right) (taken (side_number b.right)))
two_sides plan class taken b k lt = pick (side_number b.left == side_number b.right) refl lt
  where
    pick : (same : Bool) → (side_number b.left == side_number b.right) ≡ same → k < cond same 0 (pair_count (supply plan class b.left) (taken (side_number b.left)) (supply plan class b.right) (taken (side_number b.right)))
        → (side_number b.left ≢ side_number b.right) × (cond same 0 (pair_count (supply plan class b.left) (taken (side_number b.left)) (supply plan class b.right) (taken (side_number b.right))) ≡ pair_count (supply plan class b.left) (taken (side_number b.left)) (supply plan class b.right) (taken (side_number b.right)))
    pick true e less = absurd (omega (arith, less))
    pick false e less = (λ is. eqb-false (side_number b.left) (side_number b.right) e is, refl)

module _ (plan : StructurePlan) (slots : List Slot) (joins : List LayerJoin) (are : AreSlotsOf plan slots) (c : ℕ) where
  abbrev class : ClassPlan
  class = container_class plan slots c

  abbrev face_of : SidePlan → ℕ → ℕ
  face_of = side_face slots (first_ports_from plan 0 slots) (spans_from 0 (counts plan slots joins)) class c

  abbrev pairs_of_stretch : BindingPlan → Stretch → ℕ → ℕ → List FacePair
  pairs_of_stretch = stretch_pairs slots (first_ports_from plan 0 slots) (spans_from 0 (counts plan slots joins)) class c

  abbrev pairs_of_bindings : List BindingPlan → List Stretch → List FacePair
  pairs_of_bindings = binding_pairs slots (first_ports_from plan 0 slots) (spans_from 0 (counts plan slots joins)) class c

  -- f is the face of a place of a side of the container that isn't taken yet
  abbrev UsesFree : (ℕ → ℕ) → ℕ → Type 0
  UsesFree taken f = (side : SidePlan) × (n : ℕ) × Uses plan slots joins c side n f × (taken (side_number side) ≤ n)

  -- no more is taken than all
  abbrev IsPart : (ℕ → ℕ) → Type 0
  IsPart taken = (side : ℕ) → taken side ≤ all_taken plan class side

  module _ (taken : ℕ → ℕ) (b : BindingPlan) (part : IsPart (taken_after taken b (stretch plan class taken b).count)) where
    abbrev here : Stretch
    here = stretch plan class taken b

    -- both places at k of the binding's stretches
    uses_both : (k : ℕ) → k < here.count → Uses plan slots joins c b.left (here.left + k) (face_of b.left (here.left + k)) × Uses plan slots joins c b.right (here.right + k) (face_of b.right (here.right + k))
    uses_both k lt =
        let two = two_sides plan class taken b k lt in
        let left = left_after taken b here.count in
        let right = right_after taken b here.count in
        let left_part = part (side_number b.left) in
        let right_part = part (side_number b.right) in
        let both = pair_within (supply plan class b.left) (supply plan class b.right) (taken (side_number b.left)) (taken (side_number b.right)) (all_taken plan class (side_number b.left)) (all_taken plan class (side_number b.right)) k (omega (arith, lt, two.1)) (omega (arith, two.1, left, left_part)) (omega (arith, two.1, right, right_part)) in
        (side_use plan slots joins are c b.left (here.left + k) (face_of b.left (here.left + k)) both.0 refl, side_use plan slots joins are c b.right (here.right + k) (face_of b.right (here.right + k)) both.1 refl)

    -- the faces of the pairs from k on
    abbrev StretchFace : ℕ → ℕ → Type 0
    StretchFace k f = (i : ℕ) × (k ≤ i) × (i < here.count) × ((f ≡ face_of b.left (here.left + i)) ⊎ (f ≡ face_of b.right (here.right + i)))

    stretch_face : (k n f : ℕ) → k + n ≤ here.count → HasFace (pairs_of_stretch b here k n) f → StretchFace k f
    unfolding stretch_pairs
    stretch_face k zero f le h = absurd h
    stretch_face k (suc n) f le (inl e) = (k, omega arith, omega (arith, le), inl (sym e))
    stretch_face k (suc n) f le (inr (inl e)) = (k, omega arith, omega (arith, le), inr (sym e))
    stretch_face k (suc n) f le (inr (inr h)) = let more = stretch_face (k + 1) n f (omega (arith, le)) h in (more.0, omega (arith, more.1), more.2, more.3)

    -- a face of the left side at k is no other face of the stretches
    left_once : (k i f : ℕ) → k < here.count → i < here.count → k ≢ i → f ≡ face_of b.left (here.left + k) → (f ≡ face_of b.left (here.left + i)) ⊎ (f ≡ face_of b.right (here.right + i)) → ⊥
    left_once k i f lk li ne e (inl e') =
        let Q : ℕ → Type 0 = λ g. Uses plan slots joins c b.left (here.left + i) g in
        let one = same_use plan slots joins c b.left (here.left + k) (face_of b.left (here.left + k)) c b.left (here.left + i) (uses_both k lk).0 (subst Q (sym e' ∙ e) (uses_both i li).0) in
        ne (let same = one.2 in omega (arith, same))
    left_once k i f lk li ne e (inr e') =
        let Q : ℕ → Type 0 = λ g. Uses plan slots joins c b.right (here.right + i) g in
        let one = same_use plan slots joins c b.left (here.left + k) (face_of b.left (here.left + k)) c b.right (here.right + i) (uses_both k lk).0 (subst Q (sym e' ∙ e) (uses_both i li).1) in
        (two_sides plan class taken b k lk).0 (ap side_number one.1)

    right_once : (k i f : ℕ) → k < here.count → i < here.count → k ≢ i → f ≡ face_of b.right (here.right + k) → (f ≡ face_of b.left (here.left + i)) ⊎ (f ≡ face_of b.right (here.right + i)) → ⊥
    right_once k i f lk li ne e (inl e') =
        let Q : ℕ → Type 0 = λ g. Uses plan slots joins c b.left (here.left + i) g in
        let one = same_use plan slots joins c b.right (here.right + k) (face_of b.right (here.right + k)) c b.left (here.left + i) (uses_both k lk).1 (subst Q (sym e' ∙ e) (uses_both i li).0) in
        (two_sides plan class taken b k lk).0 (sym (ap side_number one.1))
    right_once k i f lk li ne e (inr e') =
        let Q : ℕ → Type 0 = λ g. Uses plan slots joins c b.right (here.right + i) g in
        let one = same_use plan slots joins c b.right (here.right + k) (face_of b.right (here.right + k)) c b.right (here.right + i) (uses_both k lk).1 (subst Q (sym e' ∙ e) (uses_both i li).1) in
        ne (let same = one.2 in omega (arith, same))

    not_paired_itself : (k : ℕ) → k < here.count → face_of b.left (here.left + k) ≢ face_of b.right (here.right + k)
    not_paired_itself k lt e =
        let Q : ℕ → Type 0 = λ g. Uses plan slots joins c b.right (here.right + k) g in
        let one = same_use plan slots joins c b.left (here.left + k) (face_of b.left (here.left + k)) c b.right (here.right + k) (uses_both k lt).0 (subst Q (sym e) (uses_both k lt).1) in
        (two_sides plan class taken b k lt).0 (ap side_number one.1)

    stretch_matching : (k n : ℕ) → k + n ≤ here.count → IsMatching (pairs_of_stretch b here k n)
    unfolding stretch_pairs
    stretch_matching k zero le = tt
    stretch_matching k (suc n) le =
        let lt : k < here.count = omega (arith, le) in
        let next : (k + 1) + n ≤ here.count = omega (arith, le) in
        matching_more (stretch_pair slots (first_ports_from plan 0 slots) (spans_from 0 (counts plan slots joins)) class c b here k) (pairs_of_stretch b here (k + 1) n) (not_paired_itself k lt)
        (λ h. let g = stretch_face (k + 1) n (face_of b.left (here.left + k)) next h in left_once k g.0 (face_of b.left (here.left + k)) lt g.2 (λ e. let later = g.1 in omega (arith, e, later)) refl g.3)
        (λ h. let g = stretch_face (k + 1) n (face_of b.right (here.right + k)) next h in right_once k g.0 (face_of b.right (here.right + k)) lt g.2 (λ e. let later = g.1 in omega (arith, e, later)) refl g.3)
        (stretch_matching (k + 1) n next)

    -- a face of the stretches is of a side's place that is taken by them
    stretch_takes : (f : ℕ) → HasFace (pairs_of_stretch b here 0 here.count) f → (side : SidePlan) × (n : ℕ) × Uses plan slots joins c side n f × (taken (side_number side) ≤ n) × (n < taken_after taken b here.count (side_number side))
    stretch_takes f h =
        let g = stretch_face 0 here.count f (omega arith) h in
        let i = g.0 in
        let lt = g.2 in
        let left = left_after taken b here.count in
        let right = right_after taken b here.count in
        elim g.3 [
          | inl e ↦ let Q : ℕ → Type 0 = λ m. Uses plan slots joins c b.left (here.left + i) m in (b.left, here.left + i, subst Q (sym e) (uses_both i lt).0, omega arith, omega (arith, left, lt))
          | inr e ↦ let Q : ℕ → Type 0 = λ m. Uses plan slots joins c b.right (here.right + i) m in (b.right, here.right + i, subst Q (sym e) (uses_both i lt).1, omega arith, omega (arith, right, lt))
        ]

  -- what the bindings from here on take is free here
  bindings_free : (bs : List BindingPlan) (taken : ℕ → ℕ) → ((side : ℕ) → taken_from plan class taken bs side ≤ all_taken plan class side) → (f : ℕ) → HasFace (pairs_of_bindings bs (stretches_from plan class taken bs)) f → UsesFree taken f
  unfolding binding_pairs stretches_from taken_from
  bindings_free [] taken part f h = absurd h
  bindings_free (b ∷ bs) taken part f h =
      let s = stretch plan class taken b in
      let after = taken_after taken b s.count in
      let part_after : IsPart after = λ side. let grows = taken_grows plan class bs after side in let all = part side in omega (arith, grows, all) in
      elim (has_either (pairs_of_stretch b s 0 s.count) (pairs_of_bindings bs (stretches_from plan class after bs)) f h) [
        | inl a ↦ let g = stretch_takes taken b part_after f a in (g.0, g.1, g.2, g.3)
        | inr a ↦ let g = bindings_free bs after part f a in let grows = after_grows taken b s.count (side_number g.0) in let free = g.3 in (g.0, g.1, g.2, omega (arith, grows, free))
      ]

  bindings_matching : (bs : List BindingPlan) (taken : ℕ → ℕ) → ((side : ℕ) → taken_from plan class taken bs side ≤ all_taken plan class side) → IsMatching (pairs_of_bindings bs (stretches_from plan class taken bs))
  unfolding binding_pairs stretches_from taken_from
  bindings_matching [] taken part = tt
  bindings_matching (b ∷ bs) taken part =
      let s = stretch plan class taken b in
      let after = taken_after taken b s.count in
      let part_after : IsPart after = λ side. let grows = taken_grows plan class bs after side in let all = part side in omega (arith, grows, all) in
      let apart : AreApart (pairs_of_stretch b s 0 s.count) (pairs_of_bindings bs (stretches_from plan class after bs)) = λ f x y.
      let g = stretch_takes taken b part_after f x in
      let h = bindings_free bs after part f y in
      let one = same_use plan slots joins c g.0 g.1 f c h.0 h.1 g.2 h.2 in
      let sides = ap (λ side. after (side_number side)) one.1 in
      let numbers = one.2 in
      let used = g.4 in
      let free = h.3 in
      omega (arith, sides, numbers, used, free) in
      matching_both (pairs_of_stretch b s 0 s.count) (pairs_of_bindings bs (stretches_from plan class after bs)) (stretch_matching taken b part_after 0 s.count (omega arith)) (bindings_matching bs after part) apart

  abbrev pairs_inside : List FacePair
  pairs_inside = pairs_of_bindings class.bindings (stretches plan class)

  container_uses : (f : ℕ) → HasFace pairs_inside f → (side : SidePlan) × (n : ℕ) × Uses plan slots joins c side n f
  container_uses f h = let g = bindings_free class.bindings none_taken (λ side. omega arith) f h in (g.0, g.1, g.2)

  container_matching : IsMatching pairs_inside
  container_matching = bindings_matching class.bindings none_taken (λ side. omega arith)

module _ (plan : StructurePlan) (slots : List Slot) (joins : List LayerJoin) (are : AreSlotsOf plan slots) where
  abbrev pairs_from : ℕ → ℕ → List FacePair
  pairs_from = container_pairs plan slots (first_ports_from plan 0 slots) (spans_from 0 (counts plan slots joins))

  -- each face is of a place of a side of one of the containers
  pub containers_use : (n c f : ℕ) → HasFace (pairs_from c n) f → (d : ℕ) × (c ≤ d) × (side : SidePlan) × (k : ℕ) × Uses plan slots joins d side k f
  unfolding container_pairs
  containers_use zero c f h = absurd h
  containers_use (suc n) c f h = elim (has_either (pairs_inside plan slots joins are c) (pairs_from (c + 1) n) f h) [
    | inl a ↦ let g = container_uses plan slots joins are c f a in (c, omega arith, g.0, g.1, g.2)
    | inr a ↦ let g = containers_use n (c + 1) f a in let later = g.1 in (g.0, omega (arith, later), g.2, g.3, g.4)
  ]

  pub containers_matching : (n c : ℕ) → IsMatching (pairs_from c n)
  unfolding container_pairs
  containers_matching zero c = tt
  containers_matching (suc n) c =
      let apart : AreApart (pairs_inside plan slots joins are c) (pairs_from (c + 1) n) = λ f x y.
      let g = container_uses plan slots joins are c f x in
      let h = containers_use n (c + 1) f y in
      let one = same_use plan slots joins c g.0 g.1 f h.0 h.2 h.3 g.2 h.4 in
      let same = one.0 in
      let later = h.1 in
      omega (arith, same, later) in
      matching_both (pairs_inside plan slots joins are c) (pairs_from (c + 1) n) (container_matching plan slots joins are c) (containers_matching n (c + 1)) apart
