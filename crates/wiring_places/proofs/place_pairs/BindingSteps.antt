-- One more pair of a binding; one more binding.
use Rattle.std.proofs.Common.{◌≡◌, ℕ, ◌+◌, ◌-◌, ◌<◌, ◌≤◌, List, [], ◌∷◌, ◌++◌, length, drop, suc, zero, refl, sym, ap, subst, ◌∙◌, arith, append_assoc, append-nil}
use Rattle.std.proofs.lemmas.List.{at_drop_more, at_drop_all}
use Rattle.std.specs.Prelude.{slice_index_or}
use Rattle.room_wiring.specs.declared.slot.Slot.{Slot}
use Rattle.room_wiring.specs.declared.tables.PlaceSpan.{PlaceSpan}
use Rattle.wiring_plan.specs.declared.structure_plan.plan.BindingPlan.{BindingPlan}
use Rattle.wiring_plan.specs.declared.structure_plan.plan.ClassPlan.{ClassPlan}
use Rattle.number_graphs.specs.declared.face_chains.FacePair.{FacePair}
use Rattle.number_graphs.specs.face_chains.Chains.{AreBelow}
use Rattle.wiring_places.specs.declared.place_rules.stretch.Stretch.{Stretch}
use Rattle.wiring_places.specs.place_rules.Pairs.{side_face, stretch_pair, stretch_pairs, binding_pairs}

pub pair_is : (slots : List Slot) (first_ports : List ℕ) (spans : List PlaceSpan) (class : ClassPlan) (c : ℕ) (b : BindingPlan) (s : Stretch) (k l r lp rp : ℕ) → lp ≡ s.left + k → rp ≡ s.right + k → l ≡ side_face slots first_ports spans class c b.left lp → r ≡ side_face slots first_ports spans class c b.right rp
    → (let p : FacePair = record { left = l; right = r } in p ≡ stretch_pair slots first_ports spans class c b s k)
pair_is slots first_ports spans class c b s k l r lp rp el er hl hr =
    let l_is : l ≡ side_face slots first_ports spans class c b.left (s.left + k) = hl ∙ ap (side_face slots first_ports spans class c b.left) el in
    let r_is : r ≡ side_face slots first_ports spans class c b.right (s.right + k) = hr ∙ ap (side_face slots first_ports spans class c b.right) er in
    let p : FacePair = record { left = l; right = r } in
    let one : p ≡ record { left = side_face slots first_ports spans class c b.left (s.left + k); right = r } = ap (λ n. let q : FacePair = record { left = n; right = r } in q) l_is in
    one ∙ ap (λ n. let q : FacePair = record { left = side_face slots first_ports spans class c b.left (s.left + k); right = n } in q) r_is

-- the faces of parts of pairs are below what all are below
pub below_first : (m : ℕ) (xs ys : List FacePair) → AreBelow m (xs ++ ys) → AreBelow m xs
below_first m [] ys h = tt
below_first m (x ∷ xs) ys h = (h.0, h.1, below_first m xs ys h.2)

pub below_rest : (m : ℕ) (xs ys : List FacePair) → AreBelow m (xs ++ ys) → AreBelow m ys
below_rest m [] ys h = h
below_rest m (x ∷ xs) ys h = below_rest m xs ys h.2

module _ (slots : List Slot) (first_ports : List ℕ) (spans : List PlaceSpan) (class : ClassPlan) (c : ℕ) where
  unrolled : (b : BindingPlan) (s : Stretch) (k n : ℕ) → 0 < n → stretch_pairs slots first_ports spans class c b s k n ≡ stretch_pair slots first_ports spans class c b s k ∷ stretch_pairs slots first_ports spans class c b s (k + 1) (n - 1)
  unfolding stretch_pairs
  unrolled b s k zero pos = absurd (omega arith)
  unrolled b s k (suc n) pos = let same : n ≡ suc n - 1 = omega arith in ap (λ m. stretch_pair slots first_ports spans class c b s k ∷ stretch_pairs slots first_ports spans class c b s (k + 1) m) same

  none_left : (b : BindingPlan) (s : Stretch) (k n : ℕ) → n ≡ 0 → stretch_pairs slots first_ports spans class c b s k n ≡ []
  unfolding stretch_pairs
  none_left b s k zero e = refl
  none_left b s k (suc n) e = absurd (omega arith)

  pub stretch_more : (b : BindingPlan) (s : Stretch) (k count : ℕ) (p : FacePair) (done out : List FacePair) → k < count → p ≡ stretch_pair slots first_ports spans class c b s k → out ≡ done ++ p ∷ []
      → out ++ stretch_pairs slots first_ports spans class c b s (k + 1) (count - (k + 1)) ≡ done ++ stretch_pairs slots first_ports spans class c b s k (count - k)
  stretch_more b s k count p done out lt is pushed =
      let left = stretch_pairs slots first_ports spans class c b s (k + 1) (count - (k + 1)) in
      let less : (count - k) - 1 ≡ count - (k + 1) = omega arith in
      let here : stretch_pairs slots first_ports spans class c b s k (count - k) ≡ p ∷ left =
      unrolled b s k (count - k) (omega (arith, lt)) ∙ ap (λ m. stretch_pair slots first_ports spans class c b s k ∷ stretch_pairs slots first_ports spans class c b s (k + 1) m) less ∙ ap (λ q. q ∷ left) (sym is) in
      ap (λ xs. xs ++ left) pushed ∙ append_assoc done (p ∷ []) left ∙ ap (λ xs. done ++ xs) (sym here)

  pub stretch_end : (b : BindingPlan) (s : Stretch) (k count : ℕ) (done : List FacePair) → count ≤ k → done ++ stretch_pairs slots first_ports spans class c b s k (count - k) ≡ done
  stretch_end b s k count done le = ap (λ xs. done ++ xs) (none_left b s k (count - k) (omega (arith, le))) ∙ append-nil done

  pub bindings_more : (bs : List BindingPlan) (ss : List Stretch) (i : ℕ) (d : BindingPlan) (e : Stretch) (done out : List FacePair) → length bs ≡ length ss → i < length bs → out ≡ done ++ stretch_pairs slots first_ports spans class c (slice_index_or bs i d) (slice_index_or ss i e) 0 (slice_index_or ss i e).count
      → out ++ binding_pairs slots first_ports spans class c (drop (i + 1) bs) (drop (i + 1) ss) ≡ done ++ binding_pairs slots first_ports spans class c (drop i bs) (drop i ss)
  unfolding binding_pairs
  bindings_more bs ss i d e done out size lt pushed =
      let b = slice_index_or bs i d in
      let s = slice_index_or ss i e in
      let these = stretch_pairs slots first_ports spans class c b s 0 s.count in
      let left = binding_pairs slots first_ports spans class c (drop (i + 1) bs) (drop (i + 1) ss) in
      let here : binding_pairs slots first_ports spans class c (drop i bs) (drop i ss) ≡ these ++ left =
      at_drop_more (λ xs. binding_pairs slots first_ports spans class c xs (drop i ss)) bs i d lt ∙ at_drop_more (λ ys. binding_pairs slots first_ports spans class c (b ∷ drop (i + 1) bs) ys) ss i e (omega (arith, size, lt)) in
      ap (λ xs. xs ++ left) pushed ∙ append_assoc done these left ∙ ap (λ xs. done ++ xs) (sym here)

  pub bindings_end : (bs : List BindingPlan) (ss : List Stretch) (i : ℕ) (done : List FacePair) → length bs ≤ i → done ++ binding_pairs slots first_ports spans class c (drop i bs) (drop i ss) ≡ done
  unfolding binding_pairs
  bindings_end bs ss i done le = ap (λ xs. done ++ xs) (at_drop_all (λ xs. binding_pairs slots first_ports spans class c xs (drop i ss)) bs i le) ∙ append-nil done

  pair_below_from : (b : BindingPlan) (s : Stretch) (m k n i : ℕ) → i < n → AreBelow m (stretch_pairs slots first_ports spans class c b s k n) → AreBelow m (stretch_pair slots first_ports spans class c b s (k + i) ∷ [])
  unfolding stretch_pairs
  pair_below_from b s m k zero i lt h = absurd (omega arith)
  pair_below_from b s m k (suc n) zero lt h =
      let at : k ≡ k + 0 = omega arith in
      let Q : ℕ → Type 0 = λ j. AreBelow m (stretch_pair slots first_ports spans class c b s j ∷ []) in
      subst Q at (h.0, h.1, tt)
  pair_below_from b s m k (suc n) (suc i) lt h =
      let at : (k + 1) + i ≡ k + suc i = omega arith in
      let Q : ℕ → Type 0 = λ j. AreBelow m (stretch_pair slots first_ports spans class c b s j ∷ []) in
      subst Q at (pair_below_from b s m (k + 1) n i (omega (arith, lt)) h.2)

  -- the pair at k of a binding
  pub pair_below : (b : BindingPlan) (s : Stretch) (m k n : ℕ) → k < n → AreBelow m (stretch_pairs slots first_ports spans class c b s 0 n) → AreBelow m (stretch_pair slots first_ports spans class c b s k ∷ [])
  pair_below b s m k n lt h =
      let at : 0 + k ≡ k = omega arith in
      let Q : ℕ → Type 0 = λ j. AreBelow m (stretch_pair slots first_ports spans class c b s j ∷ []) in
      subst Q at (pair_below_from b s m 0 n k lt h)

  -- the pairs of the binding at i
  pub binding_below : (bs : List BindingPlan) (ss : List Stretch) (m i : ℕ) (d : BindingPlan) (e : Stretch) → length bs ≡ length ss → i < length bs → AreBelow m (binding_pairs slots first_ports spans class c bs ss)
      → AreBelow m (stretch_pairs slots first_ports spans class c (slice_index_or bs i d) (slice_index_or ss i e) 0 (slice_index_or ss i e).count)
  unfolding binding_pairs
  binding_below [] ss m i d e size lt h = absurd (omega (arith, lt))
  binding_below (b ∷ bs) [] m i d e size lt h = absurd (omega (arith, size))
  binding_below (b ∷ bs) (s ∷ ss) m zero d e size lt h = below_first m (stretch_pairs slots first_ports spans class c b s 0 s.count) (binding_pairs slots first_ports spans class c bs ss) h
  binding_below (b ∷ bs) (s ∷ ss) m (suc i) d e size lt h =
      binding_below bs ss m i d e (omega (arith, size)) (omega (arith, lt)) (below_rest m (stretch_pairs slots first_ports spans class c b s 0 s.count) (binding_pairs slots first_ports spans class c bs ss) h)
