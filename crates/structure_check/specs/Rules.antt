-- Rules with their numbers, and the first one that a model breaks.
use Rattle.std.specs.Prelude.{◌≡◌, ◌⊎◌, ℕ, ◌<◌, ◌≤◌, Bool, false, List, [], ◌∷◌, Option, Some, None, if◌then◌else◌}
use Rattle.room_ast.specs.Trees.{ModelTree}

-- A rule: its number, and the test that a model passes where it keeps the rule.
pub record Rule : Type 0 where
  pub number : ℕ
  pub keeps : ModelTree → Bool

-- The number of the first rule that a model breaks, if it breaks one.
abbrev pub first_broken : List Rule → ModelTree → Option ℕ
first_broken [] m = None
first_broken (r ∷ rs) m = if r.keeps m then first_broken rs m else Some r.number

-- A model breaks the rule of this number.
abbrev pub IsBroken : List Rule → ModelTree → ℕ → Type 0
IsBroken [] m n = ⊥
IsBroken (r ∷ rs) m n = ((r.number ≡ n) × (r.keeps m ≡ false)) ⊎ IsBroken rs m n

-- The numbers of the rules are above this one, and rise.
abbrev pub RiseAbove : ℕ → List Rule → Type 0
RiseAbove k [] = Unit {0}
RiseAbove k (r ∷ rs) = (k < r.number) × RiseAbove r.number rs

-- What a number of a rule says: that it is the lowest one broken, or that none is.
abbrev pub IsLowest : List Rule → ModelTree → Option ℕ → Type 0
IsLowest rules m (Some n) = IsBroken rules m n × ((k : ℕ) → IsBroken rules m k → n ≤ k)
IsLowest rules m None = (k : ℕ) → IsBroken rules m k → ⊥
