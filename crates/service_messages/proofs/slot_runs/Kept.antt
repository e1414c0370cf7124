-- The numbers below a bound that pass a test.
use Rattle.std.proofs.Common.{◌≡◌, ℕ, zero, suc, ◌+◌, ◌-◌, ◌<◌, ◌≤◌, Bool, true, false, cond, List, [], ◌∷◌, ◌++◌, filter, refl, sym, ap, ◌∙◌, arith}
use Rattle.std.specs.List.{range_with_len}
use Rattle.std.proofs.lemmas.List.Elements.{filter-append}
use Rattle.service_messages.proofs.frame_messages.Announced.{range_more}

-- the numbers below n that pass
abbrev pub kept : (ℕ → Bool) → ℕ → List ℕ
kept p n = filter p (range_with_len 0 n)

pub kept_suc : (p : ℕ → Bool) (n : ℕ) → kept p (suc n) ≡ kept p n ++ cond (p n) (n ∷ []) []
kept_suc p n =
    let e : 0 + n ≡ n = omega arith in
    ap (filter p) (range_more 0 n ∙ ap (λ k. range_with_len 0 n ++ k ∷ []) e) ∙ filter-append p (range_with_len 0 n) (n ∷ [])

append_nothing : (xs : List ℕ) → xs ++ [] ≡ xs
append_nothing [] = refl
append_nothing (x ∷ xs) = ap (λ (ys : List ℕ). x ∷ ys) (append_nothing xs)

-- the next one passes
pub kept_one : (p : ℕ → Bool) (n : ℕ) → p n ≡ true → kept p (n + 1) ≡ kept p n ++ n ∷ []
kept_one p n h =
    let e : n + 1 ≡ suc n = omega arith in
    rw e (kept_suc p n ∙ ap (λ b. kept p n ++ cond b (n ∷ []) []) h)

none_more : (p : ℕ → Bool) (a k : ℕ) → ((u : ℕ) → a ≤ u → u < a + k → p u ≡ false) → kept p (a + k) ≡ kept p a
none_more p a zero h = let e : a + 0 ≡ a = omega arith in rw e refl
none_more p a (suc k) h =
    let e : a + suc k ≡ suc (a + k) = omega arith in
    let none : p (a + k) ≡ false = h (a + k) (omega arith) (omega arith) in
    rw e (kept_suc p (a + k) ∙ ap (λ b. kept p (a + k) ++ cond b ((a + k) ∷ []) []) none ∙ append_nothing (kept p (a + k)) ∙ none_more p a k (λ u l m. h u l (omega arith)))

-- none of the next ones passes
pub kept_none : (p : ℕ → Bool) (a b : ℕ) → a ≤ b → ((u : ℕ) → a ≤ u → u < b → p u ≡ false) → kept p b ≡ kept p a
kept_none p a b l h =
    let k = b - a in
    let e : b ≡ a + (b - a) = omega arith in
    rw e (none_more p a (b - a) (λ u m n. h u m (omega arith)))
