-- Keys of paths: bytes that are the same where the names of the paths are.
use Rattle.std.specs.Prelude.{ℕ, List, [], ◌∷◌, ◌++◌}

-- A name within a key: each byte behind a 1, and a 0 at the end.
unfoldable pub code : List ℕ → List ℕ
code [] = 0 ∷ []
code (b ∷ bs) = 1 ∷ b ∷ code bs

-- Names within a key.
unfoldable pub codes : List (List ℕ) → List ℕ
codes [] = []
codes (n ∷ ns) = code n ++ codes ns
