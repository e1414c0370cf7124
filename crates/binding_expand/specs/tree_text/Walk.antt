-- Texts of numbers in a row.
use Rattle.std.specs.Prelude.{ℕ, zero, suc, ◌+◌, List, [], ◌++◌}

-- the texts of so many numbers from k on, one behind the other
abbrev pub texts_from : (ℕ → List ℕ) → ℕ → ℕ → List ℕ
texts_from f k zero = []
texts_from f k (suc n) = f k ++ texts_from f (k + 1) n
