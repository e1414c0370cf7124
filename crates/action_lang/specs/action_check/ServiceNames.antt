-- Service names, numbered in the order in which they first came.
use Rattle.std.specs.Prelude.{ℕ, ◌+◌, List, [], ◌∷◌, map, if◌then◌else◌}
use Rattle.std.specs.Global.{Vec}
use Rattle.room_ast.specs.Found.{same_name}

-- The names that vectors of bytes are.
abbrev pub texts : List (Vec ℕ) → List (List ℕ)
texts names = map (λ (name : Vec ℕ). name.items) names

-- The names with one more, where it is new.
abbrev pub with_name : List (List ℕ) → List ℕ → List (List ℕ)
with_name [] name = name ∷ []
with_name (n ∷ ns) name = if same_name n name then n ∷ ns else n ∷ with_name ns name

-- The number of a name: that of its first place, or the next number.
abbrev pub number_from : ℕ → List (List ℕ) → List ℕ → ℕ
number_from k [] name = k
number_from k (n ∷ ns) name = if same_name n name then k else number_from (k + 1) ns name

abbrev pub number_of : List (List ℕ) → List ℕ → ℕ
number_of names name = number_from 0 names name
