-- Names as lists of bytes, and lists of them.
use Rattle.std.specs.Prelude.{◌≡◌, ℕ, Bool, List, Option, Some, None, nat_eq, map}
use Rattle.std.specs.List.{list_any, IsDistinct}
use Rattle.std.specs.Borrow.{Bor}
use lib.Pointwise.{pointwise}

-- whether two names are the same
abbrev pub same : List ℕ → List ℕ → Bool
same = pointwise nat_eq

-- whether a name is one of these
abbrev pub is_among : List (List ℕ) → List ℕ → Bool
is_among names name = list_any (same name) names

-- no two of the names are the same
abbrev pub AreDistinct : List (List ℕ) → Type 0
AreDistinct names = IsDistinct same names

-- the names to which references point
abbrev pub names_of : List (Bor (List ℕ)) → List (List ℕ)
names_of refs = map (λ (r : Bor (List ℕ)). r.now) refs

-- the numbers of names, in their order; none where two are the same
abbrev pub Numbered : Option (List (List ℕ)) → List (List ℕ) → Type 0
Numbered (Some numbers) names = (numbers ≡ names) × AreDistinct names
Numbered None names = AreDistinct names → ⊥
