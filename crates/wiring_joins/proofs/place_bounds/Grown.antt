-- Bindings of a class take no more of sides without places at the beginning than all its sides have at the beginning.
use Rattle.std.proofs.Common.{◌≡◌, ◌≢◌, ◌∙◌, ℕ, zero, suc, ◌+◌, ◌*◌, ◌≤◌, Bool, true, false, cond, ◌==◌, List, [], ◌∷◌, length, Option, Some, None, slice_get, refl, sym, ap, arith, eqb-true}
use Rattle.std.proofs.lemmas.Bool.{eqb-false}
use Rattle.std.proofs.lemmas.Option.{slice_get_within}
use Rattle.wiring_plan.specs.declared.structure_plan.plan.SidePlan.{SidePlan}
use Rattle.wiring_plan.specs.declared.structure_plan.plan.SidePlan.TheVariants.{Own, Inner}
use Rattle.wiring_plan.specs.declared.structure_plan.plan.PortPlan.{PortPlan}
use Rattle.wiring_plan.specs.declared.structure_plan.plan.ReferencePlan.{ReferencePlan}
use Rattle.wiring_plan.specs.declared.structure_plan.plan.BindingPlan.{BindingPlan}
use Rattle.wiring_plan.specs.declared.structure_plan.plan.ClassPlan.{ClassPlan}
use Rattle.wiring_plan.specs.declared.structure_plan.plan.StructurePlan.{StructurePlan}
use Rattle.wiring_places.specs.declared.place_rules.stretch.Supply.{Supply}
use Rattle.wiring_places.specs.declared.place_rules.stretch.Supply.TheVariants.{Limited, Growing}
use Rattle.wiring_places.specs.place_rules.Parts.{class_plan, HasFewPorts}
use Rattle.wiring_places.specs.place_rules.Stretches.{side_number, own_supply, inner_supply, reference_supply, supply, pair_count, stretch, take_more, taken_after, none_taken, all_taken}
use Rattle.wiring_joins.proofs.place_bounds.Rows.{own_places, grown, grown_from, grown_taken, grown_limited}
use Rattle.wiring_joins.proofs.place_bounds.Free.{of_own, of_inner, free, most_paired, measure_few}

nothing_grown : (s : Supply) → grown s 0 ≡ 0
nothing_grown (Limited zero) = refl
nothing_grown (Limited (suc m)) = refl
nothing_grown Growing = refl

pub none_grown : (side : PortPlan → Supply) (k : ℕ) (ports : List PortPlan) → grown_from side none_taken k ports ≡ 0
unfolding grown_from
none_grown side k [] = refl
none_grown side k (port ∷ ports) = let here = nothing_grown (side port) in let more = none_grown side (k + 1) ports in omega (arith, here, more)

-- of one side
take_most : (taken : ℕ → ℕ) (side n other : ℕ) → take_more taken side n other ≤ taken other + n
take_most taken side n other = pick (other == side)
  where
    pick : (b : Bool) → cond b (taken other + n) (taken other) ≤ taken other + n
    pick true = omega arith
    pick false = omega arith

module _ (plan : StructurePlan) (class : ClassPlan) where
  module _ (q : ℕ) where
    two_sides_most : (taken : ℕ → ℕ) (b : BindingPlan) (n : ℕ) → side_number b.left ≢ side_number b.right → taken_after taken b n q ≤ taken q + n
    two_sides_most taken b n differ = pick (q == side_number b.left) (q == side_number b.right) refl refl
      where
        pick : (x y : Bool) → (q == side_number b.left) ≡ x → (q == side_number b.right) ≡ y → cond y (cond x (taken q + n) (taken q) + n) (cond x (taken q + n) (taken q)) ≤ taken q + n
        pick true true ex ey = absurd (differ (sym (eqb-true q (side_number b.left) ex) ∙ eqb-true q (side_number b.right) ey))
        pick true false ex ey = omega arith
        pick false true ex ey = omega arith
        pick false false ex ey = omega arith

    side_slow : (taken : ℕ → ℕ) (b : BindingPlan) → taken_after taken b (stretch plan class taken b).count q ≤ taken q + (stretch plan class taken b).count
    side_slow taken b = pick (side_number b.left == side_number b.right) refl
      where
        pick : (same : Bool) → (side_number b.left == side_number b.right) ≡ same → taken_after taken b (cond same 0 (most_paired plan class taken b)) q ≤ taken q + cond same 0 (most_paired plan class taken b)
        pick true e =
            let one = take_most taken (side_number b.left) 0 q in
            let two = take_most (take_more taken (side_number b.left) 0) (side_number b.right) 0 q in
            omega (arith, one, two)
        pick false e = two_sides_most taken b (most_paired plan class taken b) (eqb-false (side_number b.left) (side_number b.right) e)

    -- what is taken of a side
    pub side_few : all_taken plan class q ≤ free plan class none_taken
    side_few = let all = measure_few plan class (λ (taken : ℕ → ℕ). taken q) side_slow in omega (arith, all)

  -- Of a row of sides: one that has places at the beginning and the number of a side of the class is that side.
  module _ (row : PortPlan → Supply) (k : ℕ) (ports : List PortPlan) (are_sides : (side : SidePlan) (m j : ℕ) (port : PortPlan) → supply plan class side ≡ Limited (suc m) → slice_get ports j ≡ Some port → k + j ≡ side_number side → row port ≡ Limited (suc m)) where
    limited_none : (side : SidePlan) (m : ℕ) → supply plan class side ≡ Limited (suc m) → (j : ℕ) (port : PortPlan) (t : ℕ) → slice_get ports j ≡ Some port → k + j ≡ side_number side → grown (row port) t ≡ 0
    limited_none side m e j port t at same = ap (λ (s : Supply). grown s t) (are_sides side m j port e at same)

    module _ (taken : ℕ → ℕ) (b : BindingPlan) where
      by_left : (n m : ℕ) → supply plan class b.left ≡ Limited (suc m) → grown_from row (taken_after taken b n) k ports ≤ grown_from row taken k ports + n
      by_left n m e =
          let left = grown_limited row taken (side_number b.left) n k ports (limited_none b.left m e) in
          let right = grown_taken row (take_more taken (side_number b.left) n) (side_number b.right) n k ports in
          omega (arith, left, right)

      by_right : (n m : ℕ) → supply plan class b.right ≡ Limited (suc m) → grown_from row (taken_after taken b n) k ports ≤ grown_from row taken k ports + n
      by_right n m e =
          let left = grown_taken row taken (side_number b.left) n k ports in
          let right = grown_limited row (take_more taken (side_number b.left) n) (side_number b.right) n k ports (limited_none b.right m e) in
          omega (arith, left, right)

      by_none : (n : ℕ) → n ≡ 0 → grown_from row (taken_after taken b n) k ports ≤ grown_from row taken k ports + n
      by_none n e =
          let left = grown_taken row taken (side_number b.left) n k ports in
          let right = grown_taken row (take_more taken (side_number b.left) n) (side_number b.right) n k ports in
          omega (arith, left, right, e)

      row_paired : (n : ℕ) (left right : Supply) → supply plan class b.left ≡ left → supply plan class b.right ≡ right → n ≡ pair_count left (taken (side_number b.left)) right (taken (side_number b.right)) → grown_from row (taken_after taken b n) k ports ≤ grown_from row taken k ports + n
      row_paired n (Limited zero) (Limited l) el er e = by_none n (omega (arith, e))
      row_paired n (Limited (suc m)) (Limited l) el er e = by_left n m el
      row_paired n (Limited zero) Growing el er e = by_none n (omega (arith, e))
      row_paired n (Limited (suc m)) Growing el er e = by_left n m el
      row_paired n Growing (Limited zero) el er e = by_none n (omega (arith, e))
      row_paired n Growing (Limited (suc m)) el er e = by_right n m er
      row_paired n Growing Growing el er e = by_none n e

      row_slow : grown_from row (taken_after taken b (stretch plan class taken b).count) k ports ≤ grown_from row taken k ports + (stretch plan class taken b).count
      row_slow = pick (side_number b.left == side_number b.right)
        where
          pick : (same : Bool) → grown_from row (taken_after taken b (cond same 0 (most_paired plan class taken b))) k ports ≤ grown_from row taken k ports + cond same 0 (most_paired plan class taken b)
          pick true = by_none 0 refl
          pick false = row_paired (most_paired plan class taken b) (supply plan class b.left) (supply plan class b.right) refl refl refl

    row_few : grown_from row (all_taken plan class) k ports ≤ free plan class none_taken
    row_few =
        let all = measure_few plan class (λ (taken : ℕ → ℕ). grown_from row taken k ports) row_slow in
        let none = none_grown row k ports in
        omega (arith, all, none)

  -- ---- the sides of a class by number

  own_limited : (found : Option PortPlan) (m : ℕ) → own_supply found ≡ Limited (suc m) → (port : PortPlan) × (found ≡ Some port)
  own_limited None m e = let none = ap own_places e in absurd (omega (arith, none))
  own_limited (Some port) m e = (port, refl)

  inner_limited : (count : ℕ) (found : Option PortPlan) (m : ℕ) → inner_supply count found ≡ Limited (suc m) → (port : PortPlan) × (found ≡ Some port)
  inner_limited count None m e = let none = ap own_places e in absurd (omega (arith, none))
  inner_limited count (Some port) m e = (port, refl)

  reference_limited : (found : Option ReferencePlan) (p m : ℕ) → reference_supply plan found p ≡ Limited (suc m) → (x : ReferencePlan) × (port : PortPlan) × (found ≡ Some x) × (slice_get (class_plan plan x.class).ports p ≡ Some port)
  reference_limited None p m e = let none = ap own_places e in absurd (omega (arith, none))
  reference_limited (Some x) p m e = let port = inner_limited x.count (slice_get (class_plan plan x.class).ports p) m e in (x, port.0, refl, port.1)

  -- the row of the class's own ports
  own_sides : length class.ports ≤ 65535 → (side : SidePlan) (m j : ℕ) (port : PortPlan) → supply plan class side ≡ Limited (suc m) → slice_get class.ports j ≡ Some port → 0 + j ≡ side_number side → of_own port ≡ Limited (suc m)
  own_sides few (Own p) m j port e at same =
      let there : j ≡ p = omega (arith, same) in
      ap own_supply (sym at ∙ ap (slice_get class.ports) there) ∙ e
  own_sides few (Inner r p) m j port e at same = let within = slice_get_within class.ports j port at in absurd (omega (arith, few, within, same))

  pub own_few : length class.ports ≤ 65535 → grown_from of_own (all_taken plan class) 0 class.ports ≤ free plan class none_taken
  own_few few = row_few of_own 0 class.ports (own_sides few)

  -- the row of the ports of a reference's class
  module _ (ports_few : HasFewPorts plan) (few : length class.ports ≤ 65535) (r : ℕ) (x : ReferencePlan) (named : slice_get class.references r ≡ Some x) where
    inner_sides : (side : SidePlan) (m j : ℕ) (port : PortPlan) → supply plan class side ≡ Limited (suc m) → slice_get (class_plan plan x.class).ports j ≡ Some port → (r + 1) * 65536 + j ≡ side_number side → of_inner x.count port ≡ Limited (suc m)
    inner_sides (Own p) m j port e at same =
        let there = own_limited (slice_get class.ports p) m e in
        let within = slice_get_within class.ports p there.0 there.1 in
        absurd (omega (arith, few, within, same))
    inner_sides (Inner r' p) m j port e at same =
        let there = reference_limited (slice_get class.references r') p m e in
        let within = slice_get_within (class_plan plan x.class).ports j port at in
        let few_here = ports_few x.class in
        let within' = slice_get_within (class_plan plan there.0.class).ports p there.1 there.3 in
        let few_there = ports_few there.0.class in
        let port_is : j ≡ p = omega (arith, within, few_here, within', few_there, same) in
        let reference_is : r ≡ r' = omega (arith, same, port_is) in
        let found : slice_get class.references r' ≡ Some x = ap (slice_get class.references) (sym reference_is) ∙ named in
        let port_there : slice_get (class_plan plan x.class).ports p ≡ Some port = ap (slice_get (class_plan plan x.class).ports) (sym port_is) ∙ at in
        ap (inner_supply x.count) (sym port_there) ∙ ap (λ o. reference_supply plan o p) (sym found) ∙ e

    pub inner_few : grown_from (of_inner x.count) (all_taken plan class) ((r + 1) * 65536) (class_plan plan x.class).ports ≤ free plan class none_taken
    inner_few = row_few (of_inner x.count) ((r + 1) * 65536) (class_plan plan x.class).ports inner_sides
