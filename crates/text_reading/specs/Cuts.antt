-- Texts, cut at a byte.
use Rattle.std.specs.Prelude.{ℕ, List, [], ◌∷◌, ◌==◌, if◌then◌else◌, Option, Some, None}

-- what stands before the first byte c, and what stands behind it, if it comes
abbrev pub cut_at : ℕ → List ℕ → List ℕ × Option (List ℕ)
cut_at c [] = ([], None)
cut_at c (b ∷ bs) = if b == c then ([], Some bs) else (b ∷ (cut_at c bs).0, (cut_at c bs).1)
