-- Lists by how often they hold each thing, whatever the order.
use Rattle.std.proofs.Common.{◌≡◌, ℕ, ◌+◌, ◌<◌, ◌⊎◌, inl, inr, Bool, true, false, cond, List, [], ◌∷◌, length, refl, sym, ap, subst, arith}

-- how many pass a test
abbrev pub times : {X : Type 0} → (X → Bool) → List X → ℕ
times p [] = 0
times p (x ∷ xs) = cond (p x) 1 0 + times p xs

-- a test whether two things are one
pub record TellsApart {X : Type 0} (same : X → X → Bool) : Type 0 where
  pub itself : (x : X) → same x x ≡ true
  pub one : (x y : X) → same x y ≡ true → x ≡ y

-- a list without one x
pub record Without {X : Type 0} (same : X → X → Bool) (x : X) (xs : List X) : Type 0 where
  pub rest : List X
  pub count : (y : X) → times (same y) xs ≡ cond (same y x) 1 0 + times (same y) rest
  pub length_is : length xs ≡ 1 + length rest

skip_one : {X : Type 0} (same : X → X → Bool) (x z : X) (zs : List X) → Without same x zs → Without same x (z ∷ zs)
skip_one same x z zs w = record {
  rest = z ∷ w.rest;
  count = λ y. let h = w.count y in omega arith;
  length_is = let h = w.length_is in omega arith;
}

pub without : {X : Type 0} (same : X → X → Bool) (t : TellsApart same) (x : X) (xs : List X) → 0 < times (same x) xs → Without same x xs
without same t x [] some = absurd (omega arith)
without {X} same t x (z ∷ zs) some = go (same x z) refl (λ h. without same t x zs h)
  where
    go : (b : Bool) → same x z ≡ b → (0 < times (same x) zs → Without same x zs) → Without same x (z ∷ zs)
    go true e later = record {
      rest = zs;
      count = λ y. ap (λ w. cond (same y w) 1 0 + times (same y) zs) (sym (t.one x z e));
      length_is = omega arith;
    }
    go false e later =
        skip_one same x z zs (later (let h : 0 < 0 + times (same x) zs = subst (λ (b : Bool). 0 < cond b 1 0 + times (same x) zs) e some in omega arith))

-- where ys holds nothing more often than xs: both are as long, and hold each thing as often; or xs is
-- longer, and holds some thing more often
abbrev pub SameOrMore : {X : Type 0} → List X → List X → (X → ℕ) → Type 0
SameOrMore {X} xs ys more = ((length xs ≡ length ys) × ((y : X) → more y ≡ 0)) ⊎ ((length ys < length xs) × ((y : X) × (0 < more y)))

nothing_more : {X : Type 0} (more : X → ℕ) → ((y : X) → 0 ≡ 0 + more y) → (y : X) → more y ≡ 0
nothing_more more h y = let e = h y in omega arith

pub same_or_more : {X : Type 0} (same : X → X → Bool) (t : TellsApart same) (ys xs : List X) (more : X → ℕ)
    → ((y : X) → times (same y) xs ≡ times (same y) ys + more y) → SameOrMore xs ys more
same_or_more same t [] [] more h = inl (refl, nothing_more more h)
same_or_more same t [] (x ∷ xs) more h =
    let own : cond true 1 0 + times (same x) xs ≡ 0 + more x = subst (λ (b : Bool). cond b 1 0 + times (same x) xs ≡ 0 + more x) (t.itself x) (h x) in
    inr (omega arith, (x, omega arith))
same_or_more {X} same t (y ∷ ys) xs more h =
    let own : times (same y) xs ≡ (1 + times (same y) ys) + more y = subst (λ (b : Bool). times (same y) xs ≡ (cond b 1 0 + times (same y) ys) + more y) (t.itself y) (h y) in
    let w = without same t y xs (omega arith) in
    let long = w.length_is in
    elim (same_or_more same t ys w.rest more (λ z. let a = h z in let b = w.count z in omega arith)) as (λ v. SameOrMore xs (y ∷ ys) more) [
      | inl p ↦ let e = p.0 in inl (omega arith, p.1)
      | inr p ↦ let e = p.0 in inr (omega arith, p.1)
    ]
