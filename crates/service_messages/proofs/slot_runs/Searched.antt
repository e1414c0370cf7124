-- Whether a number below a bound passes a test.
use Rattle.std.proofs.Common.{◌≡◌, ℕ, zero, suc, ◌+◌, ◌<◌, ◌≤◌, Bool, true, false, ◌||◌, refl, ap, ◌∙◌, arith, inl, inr}
use Rattle.std.specs.List.{list_any, range_with_len}
use Rattle.std.proofs.lemmas.Bool.{or_left, or_right, cases_order}

found_from : (test : ℕ → Bool) (a n k : ℕ) → a ≤ k → k < a + n → test k ≡ true → list_any test (range_with_len a n) ≡ true
found_from test a zero k from to h = absurd (omega arith)
found_from test a (suc n) k from to h =
    elim (cases_order a k) [
      | inl same ↦ or_left (test a) (list_any test (range_with_len (a + 1) n)) (ap test same ∙ h)
      | inr other ↦
          elim other [
            | inl before ↦ or_right (test a) (list_any test (range_with_len (a + 1) n)) (found_from test (a + 1) n k (omega arith) (omega arith) h)
            | inr after ↦ absurd (omega arith)
          ]
    ]

-- one is found
pub found_in : (test : ℕ → Bool) (n k : ℕ) → k < n → test k ≡ true → list_any test (range_with_len 0 n) ≡ true
found_in test n k to h = found_from test 0 n k (omega arith) (omega arith) h

none_from : (test : ℕ → Bool) (a n : ℕ) → ((k : ℕ) → k < a + n → test k ≡ false) → list_any test (range_with_len a n) ≡ false
none_from test a zero none = refl
none_from test a (suc n) none =
    ap (λ b. b || list_any test (range_with_len (a + 1) n)) (none a (omega arith)) ∙ none_from test (a + 1) n (λ k to. none k (omega arith))

-- none is found
pub none_in : (test : ℕ → Bool) (n m : ℕ) → n ≤ m → ((k : ℕ) → k < m → test k ≡ false) → list_any test (range_with_len 0 n) ≡ false
none_in test n m l none = none_from test 0 n (λ k to. none k (omega arith))
