-- What bindings of a class take was free before: each takes places that one of its sides has at the beginning.
use Rattle.std.proofs.Common.{◌≡◌, ◌∙◌, ℕ, zero, suc, ◌+◌, ◌-◌, ◌*◌, ◌≤◌, Bool, true, false, cond, ◌==◌, List, [], ◌∷◌, Option, Some, None, slice_get, refl, ap, arith}
use Rattle.std.proofs.lemmas.Option.{same_Some}
use Rattle.wiring_plan.specs.declared.structure_plan.plan.SidePlan.{SidePlan}
use Rattle.wiring_plan.specs.declared.structure_plan.plan.SidePlan.TheVariants.{Own, Inner}
use Rattle.wiring_plan.specs.declared.structure_plan.plan.PortPlan.{PortPlan}
use Rattle.wiring_plan.specs.declared.structure_plan.plan.ReferencePlan.{ReferencePlan}
use Rattle.wiring_plan.specs.declared.structure_plan.plan.BindingPlan.{BindingPlan}
use Rattle.wiring_plan.specs.declared.structure_plan.plan.ClassPlan.{ClassPlan}
use Rattle.wiring_plan.specs.declared.structure_plan.plan.StructurePlan.{StructurePlan}
use Rattle.wiring_places.specs.declared.place_rules.stretch.Supply.{Supply}
use Rattle.wiring_places.specs.declared.place_rules.stretch.Supply.TheVariants.{Limited, Growing}
use Rattle.wiring_places.specs.place_rules.Parts.{class_plan}
use Rattle.wiring_places.specs.place_rules.Stretches.{side_number, own_supply, inner_supply, reference_supply, supply, pair_count, stretch, taken_after, taken_from, none_taken, all_taken}
use Rattle.wiring_places.proofs.binding_stretches.Growing.{after_grows, left_after, right_after}
use Rattle.wiring_joins.proofs.place_bounds.Rows.{own_places, free_from, Grows, free_less, free_taken}

-- the side of a port of the class itself, and of a port at so many slots
abbrev pub of_own : PortPlan → Supply
of_own port = own_supply (Some port)

abbrev pub of_inner : ℕ → PortPlan → Supply
of_inner count port = inner_supply count (Some port)

-- how many places are free of the references, the first of which has the number r
unfoldable pub references_free : StructurePlan → (ℕ → ℕ) → ℕ → List ReferencePlan → ℕ
references_free plan taken r [] = 0
references_free plan taken r (x ∷ xs) = free_from (of_inner x.count) taken ((r + 1) * 65536) (class_plan plan x.class).ports + references_free plan taken (r + 1) xs

-- how many places are free of all sides of a class
abbrev pub free : StructurePlan → ClassPlan → (ℕ → ℕ) → ℕ
free plan class taken = free_from of_own taken 0 class.ports + references_free plan taken 0 class.references

-- how many places a binding pairs, if its sides are two
abbrev pub most_paired : StructurePlan → ClassPlan → (ℕ → ℕ) → BindingPlan → ℕ
most_paired plan class taken b = pair_count (supply plan class b.left) (taken (side_number b.left)) (supply plan class b.right) (taken (side_number b.right))

module _ (plan : StructurePlan) where
  references_less : (taken after : ℕ → ℕ) → Grows taken after → (r : ℕ) (xs : List ReferencePlan) → references_free plan after r xs ≤ references_free plan taken r xs
  unfolding references_free
  references_less taken after grows r [] = omega arith
  references_less taken after grows r (x ∷ xs) =
      let here = free_less (of_inner x.count) taken after grows ((r + 1) * 65536) (class_plan plan x.class).ports in
      let more = references_less taken after grows (r + 1) xs in
      omega (arith, here, more)

  references_taken : (taken after : ℕ → ℕ) → Grows taken after → (r : ℕ) (xs : List ReferencePlan) (i : ℕ) (x : ReferencePlan) (q n : ℕ) (port : PortPlan) → slice_get xs i ≡ Some x → slice_get (class_plan plan x.class).ports q ≡ Some port
      → n ≤ own_places (of_inner x.count port) - taken ((r + i + 1) * 65536 + q) → taken ((r + i + 1) * 65536 + q) + n ≤ after ((r + i + 1) * 65536 + q) → references_free plan after r xs + n ≤ references_free plan taken r xs
  unfolding references_free
  references_taken taken after grows r [] i x q n port e ep room takes = absurd cc
  references_taken taken after grows r (y ∷ ys) zero x q n port e ep room takes =
      let same = same_Some y x e in
      let at : (r + 0 + 1) * 65536 + q ≡ (r + 1) * 65536 + q = omega arith in
      let here = ap taken at in
      let there = ap after at in
      let P : slice_get (class_plan plan y.class).ports q ≡ Some port = ap (λ (z : ReferencePlan). slice_get (class_plan plan z.class).ports q) same ∙ ep in
      let supplies = ap (λ (z : ReferencePlan). own_places (of_inner z.count port)) same in
      let now = free_taken (of_inner y.count) taken after grows ((r + 1) * 65536) (class_plan plan y.class).ports q n port P (omega (arith, room, here, supplies)) (omega (arith, takes, here, there)) in
      let more = references_less taken after grows (r + 1) ys in
      omega (arith, now, more)
  references_taken taken after grows r (y ∷ ys) (suc i) x q n port e ep room takes =
      let at : (r + suc i + 1) * 65536 + q ≡ ((r + 1) + i + 1) * 65536 + q = omega arith in
      let here = ap taken at in
      let there = ap after at in
      let less = free_less (of_inner y.count) taken after grows ((r + 1) * 65536) (class_plan plan y.class).ports in
      let more = references_taken taken after grows (r + 1) ys i x q n port e ep (omega (arith, room, here)) (omega (arith, takes, here, there)) in
      omega (arith, less, more)

  module _ (class : ClassPlan) where
    free_all_less : (taken after : ℕ → ℕ) → Grows taken after → free plan class after ≤ free plan class taken
    free_all_less taken after grows =
        let own = free_less of_own taken after grows 0 class.ports in
        let inner = references_less taken after grows 0 class.references in
        omega (arith, own, inner)

    module _ (taken after : ℕ → ℕ) (grows : Grows taken after) (n : ℕ) where
      own_taken : (p : ℕ) (found : Option PortPlan) → slice_get class.ports p ≡ found → n ≤ own_places (own_supply found) - taken p → taken p + n ≤ after p → free plan class after + n ≤ free plan class taken
      own_taken p None e room takes = let less = free_all_less taken after grows in omega (arith, room, less)
      own_taken p (Some port) e room takes =
          let at : 0 + p ≡ p = omega arith in
          let here = ap taken at in
          let there = ap after at in
          let own = free_taken of_own taken after grows 0 class.ports p n port e (omega (arith, room, here)) (omega (arith, takes, here, there)) in
          let inner = references_less taken after grows 0 class.references in
          omega (arith, own, inner)

      port_taken : (r p : ℕ) (x : ReferencePlan) (found : Option PortPlan) → slice_get class.references r ≡ Some x → slice_get (class_plan plan x.class).ports p ≡ found → n ≤ own_places (inner_supply x.count found) - taken ((r + 1) * 65536 + p) → taken ((r + 1) * 65536 + p) + n ≤ after ((r + 1) * 65536 + p)
          → free plan class after + n ≤ free plan class taken
      port_taken r p x None er ep room takes = let less = free_all_less taken after grows in omega (arith, room, less)
      port_taken r p x (Some port) er ep room takes =
          let at : (0 + r + 1) * 65536 + p ≡ (r + 1) * 65536 + p = omega arith in
          let here = ap taken at in
          let there = ap after at in
          let own = free_less of_own taken after grows 0 class.ports in
          let inner = references_taken taken after grows 0 class.references r x p n port er ep (omega (arith, room, here)) (omega (arith, takes, here, there)) in
          omega (arith, own, inner)

      inner_taken : (r p : ℕ) (found : Option ReferencePlan) → slice_get class.references r ≡ found → n ≤ own_places (reference_supply plan found p) - taken ((r + 1) * 65536 + p) → taken ((r + 1) * 65536 + p) + n ≤ after ((r + 1) * 65536 + p) → free plan class after + n ≤ free plan class taken
      inner_taken r p None e room takes = let less = free_all_less taken after grows in omega (arith, room, less)
      inner_taken r p (Some x) e room takes = port_taken r p x (slice_get (class_plan plan x.class).ports p) e refl room takes

      -- n places that a side has at the beginning are taken of it
      side_taken : (side : SidePlan) → n ≤ own_places (supply plan class side) - taken (side_number side) → taken (side_number side) + n ≤ after (side_number side) → free plan class after + n ≤ free plan class taken
      side_taken (Own p) room takes = own_taken p (slice_get class.ports p) refl room takes
      side_taken (Inner r p) room takes = inner_taken r p (slice_get class.references r) refl room takes

    -- a binding takes as many places as are free no more
    module _ (taken : ℕ → ℕ) (b : BindingPlan) where
      paired_free : (n : ℕ) (left right : Supply) → supply plan class b.left ≡ left → supply plan class b.right ≡ right → n ≡ pair_count left (taken (side_number b.left)) right (taken (side_number b.right)) → free plan class (taken_after taken b n) + n ≤ free plan class taken
      paired_free n (Limited m) (Limited k) el er e =
          let own = ap own_places el in
          side_taken taken (taken_after taken b n) (after_grows taken b n) n b.left (omega (arith, own, e)) (left_after taken b n)
      paired_free n (Limited m) Growing el er e =
          let own = ap own_places el in
          side_taken taken (taken_after taken b n) (after_grows taken b n) n b.left (omega (arith, own, e)) (left_after taken b n)
      paired_free n Growing (Limited k) el er e =
          let own = ap own_places er in
          side_taken taken (taken_after taken b n) (after_grows taken b n) n b.right (omega (arith, own, e)) (right_after taken b n)
      paired_free n Growing Growing el er e = let less = free_all_less taken (taken_after taken b n) (after_grows taken b n) in omega (arith, less, e)

      pub binding_free : free plan class (taken_after taken b (stretch plan class taken b).count) + (stretch plan class taken b).count ≤ free plan class taken
      binding_free = pick (side_number b.left == side_number b.right)
        where
          pick : (same : Bool) → free plan class (taken_after taken b (cond same 0 (most_paired plan class taken b))) + cond same 0 (most_paired plan class taken b) ≤ free plan class taken
          pick true = let less = free_all_less taken (taken_after taken b 0) (after_grows taken b 0) in omega (arith, less)
          pick false = paired_free (most_paired plan class taken b) (supply plan class b.left) (supply plan class b.right) refl refl refl

    -- A measure of what is taken that grows by no more than a binding takes: after all bindings it is no more than was free.
    module _ (measure : (ℕ → ℕ) → ℕ) (slow : (taken : ℕ → ℕ) (b : BindingPlan) → measure (taken_after taken b (stretch plan class taken b).count) ≤ measure taken + (stretch plan class taken b).count) where
      bindings_slow : (bs : List BindingPlan) (taken : ℕ → ℕ) → measure (taken_from plan class taken bs) + free plan class (taken_from plan class taken bs) ≤ measure taken + free plan class taken
      unfolding taken_from
      bindings_slow [] taken = omega arith
      bindings_slow (b ∷ bs) taken =
          let here = slow taken b in
          let less = binding_free taken b in
          let more = bindings_slow bs (taken_after taken b (stretch plan class taken b).count) in
          omega (arith, here, less, more)

      pub measure_few : measure (all_taken plan class) ≤ measure none_taken + free plan class none_taken
      measure_few = let all = bindings_slow class.bindings none_taken in omega (arith, all)
