-- Steps at numbers one after another.
use Rattle.std.specs.Prelude.{◌≡◌, ℕ, ◌<◌, ◌≤◌}

-- below this number the step was taken, and from there on nothing changed
pub record StepsBelow {X : Type 0} (R : ℕ → X → X → Type 0) (i : ℕ) (old new : ℕ → X) : Type 0 where
  pub below : (c : ℕ) → c < i → R c (old c) (new c)
  pub above : (c : ℕ) → i ≤ c → new c ≡ old c
