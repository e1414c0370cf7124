-- Who posts at a priority.
use Rattle.std.proofs.Common.{◌≡◌, ℕ, ◌+◌, ◌-◌, ◌<◌, ◌≤◌, ◌==◌, inl, inr, [], ◌∷◌, ltb, arith}
use Rattle.std.proofs.lemmas.Bool.{cases_eq, cond-true, cond-false, eq-eqb, ne_eqb, lt-ltb, le-ltb}
use Rattle.mail_core.specs.Takes.{MayPostAt}
use Rattle.mail_seg.specs.Wires.{poster_count, posters}

pub count-level : (n p : ℕ) → p ≡ 0 → poster_count n p ≡ n - 1
count-level n p level = cond-true (p == 0) (n - 1) n (eq-eqb p 0 level)

pub count-other : (n p : ℕ) → (p ≡ 0 → ⊥) → poster_count n p ≡ n
count-other n p other = cond-false (p == 0) (n - 1) n (ne_eqb p 0 other)

pub count-most : (n p : ℕ) → poster_count n p ≤ n
count-most n p = elim (cases_eq p 0) [ inl level ↦ omega (arith, count-level n p level) | inr other ↦ omega (arith, count-other n p other) ]

-- a party that may post at a priority is among them, and the other way round
pub count-above : (n p s : ℕ) → s < n → MayPostAt n s p → s < poster_count n p
count-above n p s inside may = elim (cases_eq p 0) [
  | inl level ↦ let below : s + 1 < n = may level in omega (arith, below, count-level n p level)
  | inr other ↦ omega (arith, inside, count-other n p other)
]

pub may_post : (n p s : ℕ) → s < poster_count n p → MayPostAt n s p
may_post n p s posts = λ level. omega (arith, posts, count-level n p level)

pub posters-some : (n p s : ℕ) → s < poster_count n p → posters n p s ≡ s ∷ []
posters-some n p s posts = cond-true (ltb s (poster_count n p)) (s ∷ []) [] (lt-ltb s (poster_count n p) posts)

pub posters-none : (n p s : ℕ) → poster_count n p ≤ s → posters n p s ≡ []
posters-none n p s past = cond-false (ltb s (poster_count n p)) (s ∷ []) [] (le-ltb s (poster_count n p) past)

-- a controller posts at each priority
pub controller-posts : (n p s : ℕ) → s + 1 < n → s < poster_count n p
controller-posts n p s inside = count-above n p s (omega arith) (λ level. inside)
