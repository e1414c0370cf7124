-- The first rule that is broken is the lowest.
use Rattle.std.proofs.Common.{◌≡◌, inl, inr, ℕ, ◌<◌, ◌≤◌, Bool, true, false, cond, List, [], ◌∷◌, Option, Some, None, refl, sym, ◌∙◌, arith}
use Rattle.room_ast.specs.Trees.{ModelTree}
use Rattle.structure_check.specs.Rules.{Rule, first_broken, IsBroken, RiseAbove, IsLowest}

-- a rule that is broken has a number above that from which the numbers rise
above : (k : ℕ) (rs : List Rule) (m : ModelTree) (n : ℕ) → RiseAbove k rs → IsBroken rs m n → k < n
above k [] m n rise h = absurd h
above k (r ∷ rs) m n rise (inl e) = let f : r.number ≡ n = e.0 in omega (arith, rise.0, f)
above k (r ∷ rs) m n rise (inr h) = let f : r.number < n = above r.number rs m n rise.1 h in omega (arith, rise.0, f)

-- a rule that the model keeps changes nothing
kept : (r : Rule) (rs : List Rule) (m : ModelTree) (o : Option ℕ) → r.keeps m ≡ true → IsLowest rs m o → IsLowest (r ∷ rs) m o
kept r rs m (Some n) keeps h = (inr h.0, λ k broken. least k broken)
  where
    least : (k : ℕ) → IsBroken (r ∷ rs) m k → n ≤ k
    least k (inl e) = let f : true ≡ false = sym keeps ∙ e.1 in absurd cc
    least k (inr b) = h.1 k b
kept r rs m None keeps h = λ k broken. none k broken
  where
    none : (k : ℕ) → IsBroken (r ∷ rs) m k → ⊥
    none k (inl e) = let f : true ≡ false = sym keeps ∙ e.1 in cc
    none k (inr b) = h k b

-- a rule that the model breaks comes before those with higher numbers
broken : (r : Rule) (rs : List Rule) (m : ModelTree) → r.keeps m ≡ false → RiseAbove r.number rs → IsLowest (r ∷ rs) m (Some r.number)
broken r rs m breaks rise = (inl (refl, breaks), λ k b. least k b)
  where
    least : (k : ℕ) → IsBroken (r ∷ rs) m k → r.number ≤ k
    least k (inl e) = let f : r.number ≡ k = e.0 in omega (arith, f)
    least k (inr b) = let f : r.number < k = above r.number rs m k rise b in omega (arith, f)

pick_lowest : (r : Rule) (rs : List Rule) (m : ModelTree) (b : Bool) → r.keeps m ≡ b → RiseAbove r.number rs → IsLowest rs m (first_broken rs m) → IsLowest (r ∷ rs) m (cond b (first_broken rs m) (Some r.number))
pick_lowest r rs m true e rise h = kept r rs m (first_broken rs m) e h
pick_lowest r rs m false e rise h = broken r rs m e rise

lowest_from : (k : ℕ) (rs : List Rule) (m : ModelTree) → RiseAbove k rs → IsLowest rs m (first_broken rs m)
lowest_from k [] m rise = λ n h. h
lowest_from k (r ∷ rs) m rise = pick_lowest r rs m (r.keeps m) refl rise.1 (lowest_from r.number rs m rise.1)

pub lowest : (rules : List Rule) (m : ModelTree) → RiseAbove 0 rules → IsLowest rules m (first_broken rules m)
lowest rules m rise = lowest_from 0 rules m rise
