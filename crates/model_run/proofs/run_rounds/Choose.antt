-- A function from what there is for each number below a bound.
use Rattle.std.proofs.Common.{◌≡◌, ℕ, ◌<◌, ◌≤◌, ◌⊎◌, inl, inr, refl, arith}
use Rattle.std.proofs.lemmas.Bool.{cases_lt}

module _ {X : Type 0} (n : ℕ) (P : ℕ → X → Type 0) (default : X) (have : (k : ℕ) → k < n → (x : X) × P k x) where
  chosen_by : (k : ℕ) → (k < n) ⊎ (n ≤ k) → X
  chosen_by k (inl h) = (have k h).0
  chosen_by k (inr h) = default

  holds_by : (k : ℕ) (o : (k < n) ⊎ (n ≤ k)) → k < n → P k (chosen_by k o)
  unfolding chosen_by
  holds_by k (inl h) b = (have k h).1
  holds_by k (inr h) b = absurd (omega arith)

  past_by : (k : ℕ) (o : (k < n) ⊎ (n ≤ k)) → n ≤ k → chosen_by k o ≡ default
  unfolding chosen_by
  past_by k (inl h) b = absurd (omega arith)
  past_by k (inr h) b = refl

  pub chosen : ℕ → X
  chosen k = chosen_by k (cases_lt k n)

  pub chosen_holds : (k : ℕ) → k < n → P k (chosen k)
  unfolding chosen
  chosen_holds k h = holds_by k (cases_lt k n) h

  pub chosen_past : (k : ℕ) → n ≤ k → chosen k ≡ default
  unfolding chosen
  chosen_past k h = past_by k (cases_lt k n) h
