-- Lines, and the numbers in them.
use Rattle.std.specs.Prelude.{ℕ, ℤ, List, [], ◌∷◌, ◌++◌}
use Rattle.std.specs.Fmt.{signed_decimal}
use Rattle.std.specs.List.{flat_map, concat}

-- a line of these parts
abbrev pub line : List (List ℕ) → List ℕ
line parts = concat parts ++ 10 ∷ []

-- numbers, each after a blank
abbrev pub numbers_text : List ℤ → List ℕ
numbers_text zs = flat_map (λ z. 32 ∷ signed_decimal z) zs
