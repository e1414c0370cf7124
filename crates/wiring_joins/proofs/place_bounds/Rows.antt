-- Rows of sides: what is free of them, and what is taken of those that have no places of their own. The ports of a row have sides with rising numbers.
use Rattle.std.proofs.Common.{◌≡◌, ℕ, zero, suc, ◌+◌, ◌-◌, ◌<◌, ◌≤◌, Bool, true, false, cond, ◌==◌, List, [], ◌∷◌, Some, slice_get, refl, ap, arith, eqb-true}
use Rattle.std.proofs.lemmas.Option.{same_Some}
use Rattle.wiring_plan.specs.declared.structure_plan.plan.PortPlan.{PortPlan}
use Rattle.wiring_places.specs.declared.place_rules.stretch.Supply.{Supply}
use Rattle.wiring_places.specs.declared.place_rules.stretch.Supply.TheVariants.{Limited, Growing}
use Rattle.wiring_places.specs.place_rules.Stretches.{take_more}

-- how many places a side has at the beginning
abbrev pub own_places : Supply → ℕ
own_places (Limited m) = m
own_places Growing = 0

-- what is taken of a side that has no places at the beginning
abbrev pub grown : Supply → ℕ → ℕ
grown (Limited zero) t = t
grown (Limited (suc m)) t = 0
grown Growing t = t

-- how many places of the sides of ports are free, the first of which has the number k
unfoldable pub free_from : (PortPlan → Supply) → (ℕ → ℕ) → ℕ → List PortPlan → ℕ
free_from supply taken k [] = 0
free_from supply taken k (port ∷ ports) = (own_places (supply port) - taken k) + free_from supply taken (k + 1) ports

-- how many places are taken of those sides that have none at the beginning
unfoldable pub grown_from : (PortPlan → Supply) → (ℕ → ℕ) → ℕ → List PortPlan → ℕ
grown_from supply taken k [] = 0
grown_from supply taken k (port ∷ ports) = grown (supply port) (taken k) + grown_from supply taken (k + 1) ports

-- no less is taken of each side
abbrev pub Grows : (ℕ → ℕ) → (ℕ → ℕ) → Type 0
Grows taken after = (side : ℕ) → taken side ≤ after side

module _ (supply : PortPlan → Supply) where
  pub free_less : (taken after : ℕ → ℕ) → Grows taken after → (k : ℕ) (ports : List PortPlan) → free_from supply after k ports ≤ free_from supply taken k ports
  unfolding free_from
  free_less taken after grows k [] = omega arith
  free_less taken after grows k (port ∷ ports) = let here = grows k in let more = free_less taken after grows (k + 1) ports in omega (arith, here, more)

  -- where n places of one of the sides are taken, n less are free
  pub free_taken : (taken after : ℕ → ℕ) → Grows taken after → (k : ℕ) (ports : List PortPlan) (q n : ℕ) (port : PortPlan) → slice_get ports q ≡ Some port → n ≤ own_places (supply port) - taken (k + q) → taken (k + q) + n ≤ after (k + q)
      → free_from supply after k ports + n ≤ free_from supply taken k ports
  unfolding free_from
  free_taken taken after grows k [] q n port e free takes = absurd cc
  free_taken taken after grows k (x ∷ xs) zero n port e free takes =
      let at : k + 0 ≡ k = omega arith in
      let here = ap taken at in
      let there = ap after at in
      let same = ap (λ (y : PortPlan). own_places (supply y)) (same_Some x port e) in
      let more = free_less taken after grows (k + 1) xs in
      omega (arith, here, there, same, more, free, takes)
  free_taken taken after grows k (x ∷ xs) (suc q) n port e free takes =
      let at : k + suc q ≡ (k + 1) + q = omega arith in
      let here = ap taken at in
      let there = ap after at in
      let less = grows k in
      let more = free_taken taken after grows (k + 1) xs q n port e (omega (arith, free, here)) (omega (arith, takes, here, there)) in
      omega (arith, less, more)

  grown_more : (s : Supply) (t n : ℕ) → grown s (t + n) ≤ grown s t + n
  grown_more (Limited zero) t n = omega arith
  grown_more (Limited (suc m)) t n = omega arith
  grown_more Growing t n = omega arith

  grown_less : (s : Supply) (t u : ℕ) → t ≤ u → grown s t ≤ grown s u
  grown_less (Limited zero) t u le = le
  grown_less (Limited (suc m)) t u le = omega arith
  grown_less Growing t u le = le

  pub grown_below : (taken after : ℕ → ℕ) → Grows taken after → (k : ℕ) (ports : List PortPlan) → grown_from supply taken k ports ≤ grown_from supply after k ports
  unfolding grown_from
  grown_below taken after grows k [] = omega arith
  grown_below taken after grows k (port ∷ ports) =
      let here = grown_less (supply port) (taken k) (after k) (grows k) in
      let more = grown_below taken after grows (k + 1) ports in
      omega (arith, here, more)

  -- a side with a lower number is none of them
  grown_past : (taken : ℕ → ℕ) (q n k : ℕ) (ports : List PortPlan) → q < k → grown_from supply (take_more taken q n) k ports ≤ grown_from supply taken k ports
  unfolding grown_from
  grown_past taken q n k [] lt = omega arith
  grown_past taken q n k (port ∷ ports) lt =
      let here = pick (k == q) refl in
      let more = grown_past taken q n (k + 1) ports (omega (arith, lt)) in
      omega (arith, here, more)
    where
      pick : (b : Bool) → (k == q) ≡ b → grown (supply port) (cond b (taken k + n) (taken k)) ≤ grown (supply port) (taken k)
      pick true e = let same = eqb-true k q e in absurd (omega (arith, same, lt))
      pick false e = omega arith

  -- where n places of a side are taken, at most n more are taken of these
  pub grown_taken : (taken : ℕ → ℕ) (q n k : ℕ) (ports : List PortPlan) → grown_from supply (take_more taken q n) k ports ≤ grown_from supply taken k ports + n
  unfolding grown_from
  grown_taken taken q n k [] = omega arith
  grown_taken taken q n k (port ∷ ports) = pick (k == q) refl (grown_taken taken q n (k + 1) ports)
    where
      pick : (b : Bool) → (k == q) ≡ b → grown_from supply (take_more taken q n) (k + 1) ports ≤ grown_from supply taken (k + 1) ports + n
          → grown (supply port) (cond b (taken k + n) (taken k)) + grown_from supply (take_more taken q n) (k + 1) ports ≤ (grown (supply port) (taken k) + grown_from supply taken (k + 1) ports) + n
      pick true e rest =
          let same = eqb-true k q e in
          let here = grown_more (supply port) (taken k) n in
          let more = grown_past taken q n (k + 1) ports (omega (arith, same)) in
          omega (arith, here, more)
      pick false e rest = omega (arith, rest)

  -- and none more where that side has places at the beginning
  pub grown_limited : (taken : ℕ → ℕ) (q n k : ℕ) (ports : List PortPlan) → ((j : ℕ) (port : PortPlan) (t : ℕ) → slice_get ports j ≡ Some port → k + j ≡ q → grown (supply port) t ≡ 0) → grown_from supply (take_more taken q n) k ports ≤ grown_from supply taken k ports
  unfolding grown_from
  grown_limited taken q n k [] has = omega arith
  grown_limited taken q n k (port ∷ ports) has =
      let here = pick (k == q) refl in
      let more = grown_limited taken q n (k + 1) ports (λ j x t e at. has (suc j) x t e (omega (arith, at))) in
      omega (arith, here, more)
    where
      pick : (b : Bool) → (k == q) ≡ b → grown (supply port) (cond b (taken k + n) (taken k)) ≤ grown (supply port) (taken k)
      pick true e = let same = eqb-true k q e in let none = has 0 port (taken k + n) refl (omega (arith, same)) in omega (arith, none)
      pick false e = omega arith
