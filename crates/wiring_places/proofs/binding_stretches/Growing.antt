-- What bindings take of a side grows with each of them.
use Rattle.std.proofs.Common.{◌≡◌, ℕ, ◌+◌, ◌^◌, ◌<◌, ◌≤◌, Bool, true, false, cond, ◌==◌, List, [], ◌∷◌, refl, ap, arith, eq-eqb}
use Rattle.std.specs.Prelude.{All}
use Rattle.std.proofs.lemmas.List.Elements.{All-nil, All-cons}
use Rattle.wiring_plan.specs.declared.structure_plan.plan.BindingPlan.{BindingPlan}
use Rattle.wiring_plan.specs.declared.structure_plan.plan.ClassPlan.{ClassPlan}
use Rattle.wiring_plan.specs.declared.structure_plan.plan.StructurePlan.{StructurePlan}
use Rattle.wiring_places.specs.place_rules.Stretches.{side_number, stretch, take_more, taken_after, stretches_from, taken_from}
use Rattle.wiring_places.specs.place_pairs.Fits.{EndsWithin}

pub take_grows : (taken : ℕ → ℕ) (side n other : ℕ) → taken other ≤ take_more taken side n other
take_grows taken side n other = pick (other == side)
  where
    pick : (b : Bool) → taken other ≤ cond b (taken other + n) (taken other)
    pick true = omega arith
    pick false = omega arith

pub after_grows : (taken : ℕ → ℕ) (b : BindingPlan) (n other : ℕ) → taken other ≤ taken_after taken b n other
after_grows taken b n other =
    let one = take_grows taken (side_number b.left) n other in
    let two = take_grows (take_more taken (side_number b.left) n) (side_number b.right) n other in
    omega (arith, one, two)

pub taken_grows : (plan : StructurePlan) (class : ClassPlan) (bs : List BindingPlan) (taken : ℕ → ℕ) (side : ℕ) → taken side ≤ taken_from plan class taken bs side
unfolding taken_from
taken_grows plan class [] taken side = omega arith
taken_grows plan class (b ∷ bs) taken side =
    let here = after_grows taken b (stretch plan class taken b).count side in
    let more = taken_grows plan class bs (taken_after taken b (stretch plan class taken b).count) side in
    omega (arith, here, more)

pub take_here : (taken : ℕ → ℕ) (side n : ℕ) → take_more taken side n side ≡ taken side + n
take_here taken side n = ap (λ b. cond b (taken side + n) (taken side)) (eq-eqb side side refl)

pub left_after : (taken : ℕ → ℕ) (b : BindingPlan) (n : ℕ) → taken (side_number b.left) + n ≤ taken_after taken b n (side_number b.left)
left_after taken b n =
    let one = take_here taken (side_number b.left) n in
    let two = take_grows (take_more taken (side_number b.left) n) (side_number b.right) n (side_number b.left) in
    omega (arith, one, two)

pub right_after : (taken : ℕ → ℕ) (b : BindingPlan) (n : ℕ) → taken (side_number b.right) + n ≤ taken_after taken b n (side_number b.right)
right_after taken b n =
    let one = take_here (take_more taken (side_number b.left) n) (side_number b.right) n in
    let two = take_grows taken (side_number b.left) n (side_number b.right) in
    omega (arith, one, two)

-- a binding takes no more of a side than all bindings
pub ends_within : (plan : StructurePlan) (class : ClassPlan) (bs : List BindingPlan) (taken : ℕ → ℕ) → ((side : ℕ) → taken_from plan class taken bs side < 2 ^ 64) → All EndsWithin (stretches_from plan class taken bs)
unfolding stretches_from taken_from
ends_within plan class [] taken below = All-nil EndsWithin
ends_within plan class (b ∷ bs) taken below =
    let s = stretch plan class taken b in
    let after = taken_after taken b s.count in
    let left = left_after taken b s.count in
    let right = right_after taken b s.count in
    let left_grows = taken_grows plan class bs after (side_number b.left) in
    let right_grows = taken_grows plan class bs after (side_number b.right) in
    All-cons EndsWithin s (stretches_from plan class after bs) (record { left = omega (arith, left, left_grows, below (side_number b.left)); right = omega (arith, right, right_grows, below (side_number b.right)) }) (ends_within plan class bs after below)
