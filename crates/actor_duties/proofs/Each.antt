-- Lists of which each item has a property.
use Rattle.std.proofs.Common.{◌≡◌, ℕ, zero, suc, ◌+◌, ◌<◌, Bool, true, false, if◌then◌else◌, List, [], ◌∷◌, ◌++◌, map, filter, flat_map, arith}
use Rattle.std.specs.List.{AllByRecursion as Each, range_with_len}

module _ {X : Type 0} (P : X → Type 0) where
  pub each_both : (xs ys : List X) → Each P xs → Each P ys → Each P (xs ++ ys)
  each_both [] ys h k = k
  each_both (x ∷ xs) ys h k = (h.0, each_both xs ys h.1 k)

  pub each_if : (b : Bool) (xs ys : List X) → Each P xs → Each P ys → Each P (if b then xs else ys)
  each_if true xs ys h k = h
  each_if false xs ys h k = k

  -- what a test passes is made into what has the property
  pub each_of : {A : Type 0} (Q : A → Type 0) (f : A → X) → ((a : A) → Q a → P (f a)) → (zs : List A) → Each Q zs → Each P (map f zs)
  each_of Q f h [] q = tt
  each_of Q f h (a ∷ zs) q = (h a q.0, each_of Q f h zs q.1)

  pub each_any : {A : Type 0} (f : A → X) → ((a : A) → P (f a)) → (zs : List A) → Each P (map f zs)
  each_any f h [] = tt
  each_any f h (a ∷ zs) = (h a, each_any f h zs)

  pub each_flat : {A : Type 0} (f : A → List X) → ((a : A) → Each P (f a)) → (zs : List A) → Each P (flat_map f zs)
  each_flat f h [] = tt
  each_flat f h (a ∷ zs) = each_both (f a) (flat_map f zs) (h a) (each_flat f h zs)

  pub each_passes : (q : X → Bool) (xs : List X) → Each P xs → Each P (filter q xs)
  each_passes q [] h = tt
  each_passes q (x ∷ xs) h = go (q x) (each_passes q xs h.1)
    where
      go : (b : Bool) → Each P (filter q xs) → Each P (if b then x ∷ filter q xs else filter q xs)
      go true rest = (h.0, rest)
      go false rest = rest

-- the numbers of a range are below its end
pub range_below : (n a k : ℕ) → a + k ≡ n → Each (λ d. d < n) (range_with_len a k)
range_below n a zero e = tt
range_below n a (suc k) e = (omega (arith, e), range_below n (a + 1) k (omega (arith, e)))
