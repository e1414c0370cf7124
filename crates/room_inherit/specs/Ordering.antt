-- Orders of classes that are tried: which classes stand in them so far.
use Rattle.std.specs.Prelude.{◌≡◌, ℕ, ◌<◌, Bool, true, List, length, slice_index}
use Rattle.std.specs.List.{slice_index_or}
use Rattle.number_graphs.specs.class_containment.Containment.{has_part}

-- Whether a class is marked as one that stands in the order; a number that no class has counts as one.
abbrev pub is_placed : List Bool → ℕ → Bool
is_placed placed i = slice_index_or placed i true

-- What the marks say of the first n places of an order: each class that is marked stands there, and each class there has only bases at earlier places.
pub record IsMarked (bases : List (List ℕ)) (order : List ℕ) (n : ℕ) (placed : List Bool) : Type 0 where
  pub sized : length placed ≡ length bases
  pub stands : (i : ℕ) → i < length bases → is_placed placed i ≡ true → (e : ℕ) × (e < n) × (slice_index order e ≡ i)
  pub sorted : (k j : ℕ) → k < n → has_part bases (slice_index order k) j ≡ true → j < length bases → (e : ℕ) × (e < k) × (slice_index order e ≡ j)
