-- The state of a walk over classes and their parts.
use Rattle.std.specs.Prelude.{◌≡◌, ◌⊎◌, ℕ, zero, suc, ◌+◌, ◌<◌, Bool, true, false, nat_eq, List, [], ◌∷◌, length, slice_index, Option, Some, None}
use Rattle.std.specs.List.{list_any, slice_index_or, sum_by}
use Rattle.std.specs.Global.{Vec}
use Rattle.number_graphs.specs.class_containment.Containment.{parts_of, has_part, Contains, NoneContainsItself, IsContainmentOrder}
use Rattle.std.specs.Prelude.{slice_set, ◌++◌}
use Rattle.std.specs.Borrow.{Bor}
use Rattle.number_graphs.specs.declared.class_containment.Walk.{Walk}
use Rattle.number_graphs.specs.declared.class_containment.Progress.{Progress}
use Rattle.number_graphs.specs.declared.class_containment.Progress.TheVariants.{Untouched, Open, Settled}

-- How far the walk has come with a class; a number that no class has counts as settled.
abbrev pub at : List Progress → ℕ → Progress
at progress i = slice_index_or progress i (Settled 0)

-- Whether a number is among these.
abbrev pub is_in : List ℕ → ℕ → Bool
is_in xs x = list_any (nat_eq x) xs

abbrev pub is_settled : Progress → Bool
is_settled (Untouched ps) = false
is_settled (Open ps) = false
is_settled (Settled place) = true

abbrev pub is_open : Progress → Bool
is_open (Untouched ps) = false
is_open (Open ps) = true
is_open (Settled place) = false

-- Whether a class wasn't left yet, as 1 or 0.
abbrev pub unsettled : Progress → ℕ
unsettled (Untouched ps) = 1
unsettled (Open ps) = 1
unsettled (Settled place) = 0

-- What is left to do with a class.
abbrev pub work : Progress → ℕ
work (Untouched ps) = 3 + length ps.now
work (Open ps) = 1 + length ps.now
work (Settled place) = 0

-- What is left to do.
abbrev pub work_left : List Progress → List ℕ → ℕ
work_left progress path = sum_by work progress + length path

-- Each number but the last is a part of the one after it.
abbrev pub IsChain : List (List ℕ) → List ℕ → Type 0
IsChain classes [] = Unit {0}
IsChain classes (x ∷ []) = Unit {0}
IsChain classes (x ∷ y ∷ ys) = (has_part classes y x ≡ true) × IsChain classes (y ∷ ys)

-- Each part of a class is still to be looked at, or settled.
abbrev pub Passed : List (List ℕ) → List Progress → ℕ → List ℕ → Type 0
Passed classes progress i rest = (j : ℕ) → has_part classes i j ≡ true → (is_in rest j ≡ true) ⊎ (is_settled (at progress j) ≡ true)

-- These are parts of a class.
abbrev pub AreParts : List (List ℕ) → ℕ → List ℕ → Type 0
AreParts classes i rest = (j : ℕ) → is_in rest j ≡ true → has_part classes i j ≡ true

-- The class stands in the order at this place.
abbrev pub Stands : List ℕ → ℕ → ℕ → Type 0
Stands order place i = (place < length order) × (slice_index order place ≡ i)

-- What is known of a class: one that wasn't reached has all its parts left; one that was reached and not left stands among those, and each of its parts is still to be looked at or settled; one that was left stands in the order.
abbrev pub IsKnown : List (List ℕ) → List Progress → List ℕ → List ℕ → ℕ → Progress → Type 0
IsKnown classes progress up order i (Untouched ps) = ps.now ≡ parts_of classes i
IsKnown classes progress up order i (Open rest) = (is_in up i ≡ true) × Passed classes progress i rest.now × AreParts classes i rest.now
IsKnown classes progress up order i (Settled place) = i < length classes → Stands order place i

-- The class at each place of the order has only parts of classes at earlier places, or of no class.
abbrev pub IsSorted : List (List ℕ) → List ℕ → Type 0
IsSorted classes order = (k j : ℕ) → k < length order → has_part classes (slice_index order k) j ≡ true → j < length classes → (e : ℕ) × (e < k) × (slice_index order e ≡ j)

-- What a walk keeps. `up` is the classes that were reached and not left, innermost first.
pub record Walking (classes : List (List ℕ)) (progress : List Progress) (up order : List ℕ) : Type 0 where
  pub size : length progress ≡ length classes
  pub known : (i : ℕ) → IsKnown classes progress up order i (at progress i)
  pub sorted : IsSorted classes order
  pub chain : IsChain classes up
  pub room : length order + sum_by unsettled progress ≡ length classes

-- What wasn't reached afterwards wasn't reached before.
abbrev pub is_untouched : Progress → Bool
is_untouched (Untouched ps) = true
is_untouched (Open ps) = false
is_untouched (Settled place) = false

abbrev pub KeepsReached : List Progress → List Progress → Type 0
KeepsReached old new = (i : ℕ) → is_untouched (at new i) ≡ true → is_untouched (at old i) ≡ true

-- What a look at a part of the innermost class does, once that class is taken from the path, and whether it finds a circle. `left` is the parts behind it.
pub data Looks (old new : Walk) (top part : ℕ) (left : Bor (List ℕ)) : Bool → Type 0 where
  -- the part wasn't reached: it is reached
  reaches : (parts : Bor (List ℕ)) → at old.progress.items part ≡ Untouched parts → new.progress.items ≡ slice_set old.progress.items part (Open parts) → new.order.items ≡ old.order.items
      → new.path.items ≡ (old.path.items ++ top ∷ []) ++ part ∷ [] → Looks old new top part left false
  -- the part was left: it is passed
  passes : is_settled (at old.progress.items part) ≡ true → new.progress.items ≡ slice_set old.progress.items top (Open left) → new.order.items ≡ old.order.items → new.path.items ≡ old.path.items ++ top ∷ [] → Looks old new top part left false
  -- the part is open: a circle
  circles : (parts : Bor (List ℕ)) → at old.progress.items part ≡ Open parts → Looks old new top part left true

-- What a turn of a walk at the innermost class does, once that is taken from the path, and whether it finds a circle.
pub data Turns (old new : Walk) (top : ℕ) : Bool → Type 0 where
  -- the class has no part left: it is left
  leaves : (rest : Bor (List ℕ)) → at old.progress.items top ≡ Open rest → rest.now ≡ [] → new.progress.items ≡ slice_set old.progress.items top (Settled (length old.order.items)) → new.order.items ≡ old.order.items ++ top ∷ [] → new.path.items ≡ old.path.items
      → Turns old new top false
  -- the class isn't open: it is dropped
  drops : is_open (at old.progress.items top) ≡ false → new.progress.items ≡ old.progress.items → new.order.items ≡ old.order.items → new.path.items ≡ old.path.items → Turns old new top false
  -- its next part is looked at
  looks : (rest left : Bor (List ℕ)) (part : ℕ) (found : Bool) → at old.progress.items top ≡ Open rest → rest.now ≡ part ∷ left.now → Looks old new top part left found → Turns old new top found

-- What a search from the classes that were reached keeps or finds: a class that contains itself, or that everything reached is left.
abbrev pub Searches : List (List ℕ) → Walk → Walk → Bool → Type 0
Searches classes old new true = (i : ℕ) × Contains classes i i
Searches classes old new false = Walking classes new.progress.items [] new.order.items × (new.path.items ≡ []) × KeepsReached old.progress.items new.progress.items

-- A walk between two searches: no class is open.
abbrev pub Rests : List (List ℕ) → Walk → Type 0
Rests classes walk = Walking classes walk.progress.items [] walk.order.items × (walk.path.items ≡ [])

-- What a search from one class keeps or finds: a class that contains itself, or that the class was reached and everything reached is left.
abbrev pub SearchesFrom : List (List ℕ) → Walk → Walk → ℕ → Bool → Type 0
SearchesFrom classes old new class true = (i : ℕ) × Contains classes i i
SearchesFrom classes old new class false = Rests classes new × KeepsReached old.progress.items new.progress.items × (is_untouched (at new.progress.items class) ≡ false)

-- The parts that a class has left where it wasn't reached.
abbrev pub parts_left : Progress → Option (List ℕ)
parts_left (Untouched ps) = Some ps.now
parts_left (Open ps) = None
parts_left (Settled place) = None

-- What an order says, or that there is none.
abbrev pub Orders : List (List ℕ) → Option (Vec ℕ) → Type 0
Orders classes None = (i : ℕ) × Contains classes i i
Orders classes (Some order) = IsContainmentOrder classes order.items × NoneContainsItself classes

-- What a test says: that some class contains itself, or that none does.
abbrev pub ContainsItself : List (List ℕ) → Bool → Type 0
ContainsItself classes true = (i : ℕ) × Contains classes i i
ContainsItself classes false = NoneContainsItself classes
