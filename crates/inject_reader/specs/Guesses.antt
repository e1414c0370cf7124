-- Places that are guessed, before they are searched for.
use Rattle.std.specs.Prelude.{ℕ, ◌≤◌, min, Bool, List, length}
use Rattle.std.specs.List.{position_or_len}

-- no item before the guess passes p
abbrev pub IsNoLater : {A : Type 0} → ℕ → (A → Bool) → List A → Type 0
IsNoLater guess p xs = min guess (length xs) ≤ position_or_len p xs
