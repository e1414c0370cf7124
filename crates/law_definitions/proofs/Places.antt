-- Bindings pair the first places that are free.
use Rattle.std.proofs.Common.{◌≡◌, ◌∙◌, ◌⊎◌, inl, inr, ℕ, zero, suc, ◌+◌, ◌≤◌, ◌<◌, ◌==◌, nat_lt, Bool, true, false, cond, List, [], ◌∷◌, Some, slice_get, refl, sym, ap, subst, arith}
use Rattle.std.proofs.lemmas.Bool.{eqb-true, eq-eqb}
use Rattle.std.proofs.lemmas.Bool.Decides.{nat_tests}
use Rattle.std.proofs.lemmas.Option.{same_Some}
use Rattle.wiring_plan.specs.declared.structure_plan.plan.BindingPlan.{BindingPlan}
use Rattle.wiring_plan.specs.declared.structure_plan.plan.ClassPlan.{ClassPlan}
use Rattle.wiring_plan.specs.declared.structure_plan.plan.StructurePlan.{StructurePlan}
use Rattle.wiring_places.specs.declared.place_rules.stretch.Stretch.{Stretch}
use Rattle.wiring_places.specs.place_rules.Stretches.{side_number, stretch, take_more, taken_after, stretches_from, none_taken, pair_count, supply}
use Rattle.law_definitions.specs.Places.{Pairs, PairedBefore, BindingsTakeFreePlaces}

-- ---- what is taken of a side after one more binding

same_or_not : (a b : ℕ) → (((a == b) ≡ true) × (a ≡ b)) ⊎ (((a == b) ≡ false) × (a ≡ b → ⊥))
same_or_not a b = by_test (a == b) refl
  where
    by_test : (t : Bool) → (a == b) ≡ t → (((a == b) ≡ true) × (a ≡ b)) ⊎ (((a == b) ≡ false) × (a ≡ b → ⊥))
    by_test true e = inl (e, eqb-true a b e)
    by_test false e = inr (e, λ is. let both : true ≡ false = sym (eq-eqb a b is) ∙ e in absurd cc)

more_here : (taken : ℕ → ℕ) (side n other : ℕ) → (other == side) ≡ true → take_more taken side n other ≡ taken other + n
more_here taken side n other e = ap (λ t. cond t (taken other + n) (taken other)) e

more_there : (taken : ℕ → ℕ) (side n other : ℕ) → (other == side) ≡ false → take_more taken side n other ≡ taken other
more_there taken side n other e = ap (λ t. cond t (taken other + n) (taken other)) e

order : (a b : ℕ) → (a < b) ⊎ (b ≤ a)
order a b = by_test (nat_lt a b) refl
  where
    by_test : (t : Bool) → nat_lt a b ≡ t → (a < b) ⊎ (b ≤ a)
    by_test true e = inl (grind (arith, nat_tests))
    by_test false e = inr (grind (arith, nat_tests))

module _ (plan : StructurePlan) (class : ClassPlan) where
  -- no side is paired with itself
  none_itself : (taken : ℕ → ℕ) (b : BindingPlan) → (side_number b.left == side_number b.right) ≡ true → (stretch plan class taken b).count ≡ 0
  none_itself taken b e =
      ap (λ t. cond t 0 (pair_count (supply plan class b.left) (taken (side_number b.left)) (supply plan class b.right) (taken (side_number b.right)))) e

  record Taken (taken : ℕ → ℕ) (b : BindingPlan) (side : ℕ) : Type 0 where
    forth : (place : ℕ) → place < taken_after taken b (stretch plan class taken b).count side → (place < taken side) ⊎ Pairs b (stretch plan class taken b) side place
    back : (place : ℕ) → (place < taken side) ⊎ Pairs b (stretch plan class taken b) side place → place < taken_after taken b (stretch plan class taken b).count side

  -- so many more of a side, or none
  abbrev count : (ℕ → ℕ) → BindingPlan → ℕ
  count taken b = (stretch plan class taken b).count

  neither : (taken : ℕ → ℕ) (b : BindingPlan) (side : ℕ) → (side == side_number b.left) ≡ false → (side ≡ side_number b.left → ⊥)
      → (side == side_number b.right) ≡ false → (side ≡ side_number b.right → ⊥) → Taken taken b side
  neither taken b side el nl er nr =
      let is : taken_after taken b (count taken b) side ≡ taken side =
      more_there (take_more taken (side_number b.left) (count taken b)) (side_number b.right) (count taken b) side er ∙ more_there taken (side_number b.left) (count taken b) side el in
      record {
        forth = λ place h. inl (subst (λ n. place < n) is h);
        back = λ place h. by_part is place h;
      }
    where
      by_part : taken_after taken b (count taken b) side ≡ taken side → (place : ℕ) → (place < taken side) ⊎ Pairs b (stretch plan class taken b) side place
          → place < taken_after taken b (count taken b) side
      by_part is place (inl h) = subst (λ n. place < n) (sym is) h
      by_part is place (inr (inl p)) = absurd (nl (sym p.0))
      by_part is place (inr (inr p)) = absurd (nr (sym p.0))

  of_left : (taken : ℕ → ℕ) (b : BindingPlan) (side : ℕ) → (side == side_number b.left) ≡ true → side ≡ side_number b.left
      → (side == side_number b.right) ≡ false → (side ≡ side_number b.right → ⊥) → Taken taken b side
  of_left taken b side el sl er nr =
      let is : taken_after taken b (count taken b) side ≡ taken side + count taken b =
      more_there (take_more taken (side_number b.left) (count taken b)) (side_number b.right) (count taken b) side er ∙ more_here taken (side_number b.left) (count taken b) side el in
      let from : taken (side_number b.left) ≡ taken side = ap taken (sym sl) in
      record {
        forth = λ place h. cut is from place (subst (λ n. place < n) is h);
        back = λ place h. by_part is from place h;
      }
    where
      cut : taken_after taken b (count taken b) side ≡ taken side + count taken b → taken (side_number b.left) ≡ taken side
          → (place : ℕ) → place < taken side + count taken b → (place < taken side) ⊎ Pairs b (stretch plan class taken b) side place
      cut is from place h = by_order (order place (taken side))
        where
          by_order : (place < taken side) ⊎ (taken side ≤ place) → (place < taken side) ⊎ Pairs b (stretch plan class taken b) side place
          by_order (inl low) = inl low
          by_order (inr high) = inr (inl (sym sl, (omega (arith, from, high), omega (arith, from, h))))

      by_part : taken_after taken b (count taken b) side ≡ taken side + count taken b → taken (side_number b.left) ≡ taken side
          → (place : ℕ) → (place < taken side) ⊎ Pairs b (stretch plan class taken b) side place → place < taken_after taken b (count taken b) side
      by_part is from place (inl h) = subst (λ n. place < n) (sym is) (omega (arith, h))
      by_part is from place (inr (inl p)) = let least = p.1.0 in let most = p.1.1 in subst (λ n. place < n) (sym is) (omega (arith, from, most))
      by_part is from place (inr (inr p)) = absurd (nr (sym p.0))

  of_right : (taken : ℕ → ℕ) (b : BindingPlan) (side : ℕ) → (side == side_number b.left) ≡ false → (side ≡ side_number b.left → ⊥)
      → (side == side_number b.right) ≡ true → side ≡ side_number b.right → Taken taken b side
  of_right taken b side el nl er sr =
      let is : taken_after taken b (count taken b) side ≡ taken side + count taken b =
      more_here (take_more taken (side_number b.left) (count taken b)) (side_number b.right) (count taken b) side er
      ∙ ap (λ n. n + count taken b) (more_there taken (side_number b.left) (count taken b) side el) in
      let from : taken (side_number b.right) ≡ taken side = ap taken (sym sr) in
      record {
        forth = λ place h. cut from place (subst (λ n. place < n) is h);
        back = λ place h. by_part is from place h;
      }
    where
      cut : taken (side_number b.right) ≡ taken side → (place : ℕ) → place < taken side + count taken b → (place < taken side) ⊎ Pairs b (stretch plan class taken b) side place
      cut from place h = by_order (order place (taken side))
        where
          by_order : (place < taken side) ⊎ (taken side ≤ place) → (place < taken side) ⊎ Pairs b (stretch plan class taken b) side place
          by_order (inl low) = inl low
          by_order (inr high) = inr (inr (sym sr, (omega (arith, from, high), omega (arith, from, h))))

      by_part : taken_after taken b (count taken b) side ≡ taken side + count taken b → taken (side_number b.right) ≡ taken side
          → (place : ℕ) → (place < taken side) ⊎ Pairs b (stretch plan class taken b) side place → place < taken_after taken b (count taken b) side
      by_part is from place (inl h) = subst (λ n. place < n) (sym is) (omega (arith, h))
      by_part is from place (inr (inl p)) = absurd (nl (sym p.0))
      by_part is from place (inr (inr p)) = let most = p.1.1 in subst (λ n. place < n) (sym is) (omega (arith, from, most))

  of_both : (taken : ℕ → ℕ) (b : BindingPlan) (side : ℕ) → (side == side_number b.left) ≡ true → side ≡ side_number b.left
      → (side == side_number b.right) ≡ true → side ≡ side_number b.right → Taken taken b side
  of_both taken b side el sl er sr =
      let none : count taken b ≡ 0 = none_itself taken b (eq-eqb (side_number b.left) (side_number b.right) (sym sl ∙ sr)) in
      let is : taken_after taken b (count taken b) side ≡ (taken side + count taken b) + count taken b =
      more_here (take_more taken (side_number b.left) (count taken b)) (side_number b.right) (count taken b) side er
      ∙ ap (λ n. n + count taken b) (more_here taken (side_number b.left) (count taken b) side el) in
      record {
        forth = λ place h. inl (omega (arith, none, is, h));
        back = λ place h. by_part none is place h;
      }
    where
      by_part : count taken b ≡ 0 → taken_after taken b (count taken b) side ≡ (taken side + count taken b) + count taken b
          → (place : ℕ) → (place < taken side) ⊎ Pairs b (stretch plan class taken b) side place → place < taken_after taken b (count taken b) side
      by_part none is place (inl h) = omega (arith, none, is, h)
      by_part none is place (inr (inl p)) = let least = p.1.0 in let most = p.1.1 in absurd (omega (arith, none, least, most))
      by_part none is place (inr (inr p)) = let least = p.1.0 in let most = p.1.1 in absurd (omega (arith, none, least, most))

  taken_is : (taken : ℕ → ℕ) (b : BindingPlan) (side : ℕ) → Taken taken b side
  taken_is taken b side = by_sides (same_or_not side (side_number b.left)) (same_or_not side (side_number b.right))
    where
      by_sides : (((side == side_number b.left) ≡ true) × (side ≡ side_number b.left)) ⊎ (((side == side_number b.left) ≡ false) × (side ≡ side_number b.left → ⊥))
          → (((side == side_number b.right) ≡ true) × (side ≡ side_number b.right)) ⊎ (((side == side_number b.right) ≡ false) × (side ≡ side_number b.right → ⊥))
          → Taken taken b side
      by_sides (inl l) (inl r) = of_both taken b side l.0 l.1 r.0 r.1
      by_sides (inl l) (inr r) = of_left taken b side l.0 l.1 r.0 r.1
      by_sides (inr l) (inl r) = of_right taken b side l.0 l.1 r.0 r.1
      by_sides (inr l) (inr r) = neither taken b side l.0 l.1 r.0 r.1

  -- ---- along the bindings

  -- the places of a side before this one are those that were taken at first, or that one of so many bindings paired
  record Before (taken : ℕ → ℕ) (n : ℕ) (bs : List BindingPlan) (side first : ℕ) : Type 0 where
    forth : (place : ℕ) → place < first → (place < taken side) ⊎ PairedBefore n bs (stretches_from plan class taken bs) side place
    back : (place : ℕ) → (place < taken side) ⊎ PairedBefore n bs (stretches_from plan class taken bs) side place → place < first

  start_is : (taken : ℕ → ℕ) (bs : List BindingPlan) (side : ℕ) → Before taken 0 bs side (taken side)
  start_is taken bs side = record { forth = λ place h. inl h; back = λ place h. low place h }
    where
      low : (place : ℕ) → (place < taken side) ⊎ ⊥ → place < taken side
      low place (inl h) = h
      low place (inr never) = absurd never

  one_on : (taken : ℕ → ℕ) (n : ℕ) (b : BindingPlan) (bs : List BindingPlan) (side first : ℕ) → Before (taken_after taken b (count taken b)) n bs side first
      → Before taken (suc n) (b ∷ bs) side first
  unfolding stretches_from
  one_on taken n b bs side first later = record {
    forth = λ place h. onward place (later.forth place h);
    back = λ place h. backward place h;
  }
    where
      here : Taken taken b side
      here = taken_is taken b side

      onward : (place : ℕ) → (place < taken_after taken b (count taken b) side) ⊎ PairedBefore n bs (stretches_from plan class (taken_after taken b (count taken b)) bs) side place
          → (place < taken side) ⊎ PairedBefore (suc n) (b ∷ bs) (stretches_from plan class taken (b ∷ bs)) side place
      onward place (inr p) = inr (inr p)
      onward place (inl h) = by_part (here.forth place h)
        where
          by_part : (place < taken side) ⊎ Pairs b (stretch plan class taken b) side place → (place < taken side) ⊎ PairedBefore (suc n) (b ∷ bs) (stretches_from plan class taken (b ∷ bs)) side place
          by_part (inl k) = inl k
          by_part (inr p) = inr (inl p)

      backward : (place : ℕ) → (place < taken side) ⊎ PairedBefore (suc n) (b ∷ bs) (stretches_from plan class taken (b ∷ bs)) side place → place < first
      backward place (inl h) = later.back place (inl (here.back place (inl h)))
      backward place (inr (inl p)) = later.back place (inl (here.back place (inr p)))
      backward place (inr (inr p)) = later.back place (inr p)

  record Both (taken : ℕ → ℕ) (n : ℕ) (bs : List BindingPlan) (b : BindingPlan) (s : Stretch) : Type 0 where
    left : Before taken n bs (side_number b.left) s.left
    right : Before taken n bs (side_number b.right) s.right

  along : (taken : ℕ → ℕ) (bs : List BindingPlan) (i : ℕ) (b : BindingPlan) (s : Stretch) → slice_get bs i ≡ Some b → slice_get (stretches_from plan class taken bs) i ≡ Some s → Both taken i bs b s
  unfolding stretches_from
  along taken [] i b s e f = absurd cc
  along taken (c ∷ cs) zero b s e f =
      let same : c ≡ b = same_Some c b e in
      let taken_so : stretch plan class taken c ≡ s = same_Some (stretch plan class taken c) s f in
      subst (λ z. Both taken 0 (c ∷ cs) z s) same (subst (Both taken 0 (c ∷ cs) c) taken_so
      (record { left = start_is taken (c ∷ cs) (side_number c.left); right = start_is taken (c ∷ cs) (side_number c.right) }))
  along taken (c ∷ cs) (suc i) b s e f =
      let later = along (taken_after taken c (count taken c)) cs i b s e f in
      record { left = one_on taken i c cs (side_number b.left) s.left later.left; right = one_on taken i c cs (side_number b.right) s.right later.right }

pub take_free : BindingsTakeFreePlaces
take_free plan class i b s e f =
    let both = along plan class none_taken class.bindings i b s e f in
    record {
      left = λ place. (λ p. both.left.back place (inr p), λ h. none (both.left.forth place h));
      right = λ place. (λ p. both.right.back place (inr p), λ h. none (both.right.forth place h));
    }
  where
    none : {P : Type 0} {place : ℕ} → (place < 0) ⊎ P → P
    none (inl h) = absurd (omega (arith, h))
    none (inr p) = p
