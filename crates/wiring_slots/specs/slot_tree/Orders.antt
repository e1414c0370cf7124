-- Lists of slots in which each part is numbered behind the parts before it.
use Rattle.std.specs.Prelude.{ℕ, ◌+◌, List, [], ◌∷◌, ◌++◌, length}

-- What the items make, the first with this first number, and each later one with the number behind what the earlier ones made.
abbrev pub in_order : {X S : Type 0} → (ℕ → X → List S) → ℕ → List X → List S
in_order make first [] = []
in_order make first (x ∷ xs) = make first x ++ in_order make (first + length (make first x)) xs
