-- Parts of a row, one after another.
use Rattle.std.specs.Prelude.{ℕ, zero, suc, ◌+◌, List, [], ◌∷◌}

-- where the part at a number begins in a row of parts of these lengths
abbrev pub offset : List ℕ → ℕ → ℕ
offset [] i = 0
offset (n ∷ ns) zero = 0
offset (n ∷ ns) (suc i) = n + offset ns i
