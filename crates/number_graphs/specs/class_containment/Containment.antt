-- Classes that have parts of classes, all by number: the fields of data classes, the references of actor classes.
use Rattle.std.specs.Prelude.{◌≡◌, ℕ, zero, suc, ◌+◌, ◌<◌, ◌≤◌, Bool, true, false, nat_eq, List, [], length, take, slice_index}
use Rattle.std.specs.List.{list_any, list_all, slice_index_or}

-- The classes of the parts of a class; none where no class has the number.
abbrev pub parts_of : List (List ℕ) → ℕ → List ℕ
parts_of classes i = slice_index_or classes i []

-- Whether a class has a part of this class.
abbrev pub has_part : List (List ℕ) → ℕ → ℕ → Bool
has_part classes i j = list_any (nat_eq j) (parts_of classes i)

-- Class i contains class j: it has a part of class j, or a part of a class that contains j.
pub data Contains (classes : List (List ℕ)) : ℕ → ℕ → Type 0 where
  directly : (i j : ℕ) → has_part classes i j ≡ true → Contains classes i j
  through : (i k j : ℕ) → has_part classes i k ≡ true → Contains classes k j → Contains classes i j

-- No class contains itself.
abbrev pub NoneContainsItself : List (List ℕ) → Type 0
NoneContainsItself classes = (i : ℕ) → Contains classes i i → ⊥

-- Whether a chain of parts with so many steps begins at a class.
abbrev pub has_chain : ℕ → List (List ℕ) → ℕ → Bool
has_chain zero classes i = true
has_chain (suc n) classes i = list_any (has_chain n classes) (parts_of classes i)

-- An order of the classes in which each stands after the classes of its parts.
pub record IsContainmentOrder (classes : List (List ℕ)) (order : List ℕ) : Type 0 where
  -- each class stands in it
  pub whole : (i : ℕ) → i < length classes → (k : ℕ) × (k < length order) × (slice_index order k ≡ i)
  -- the class at each place has only parts of classes at earlier places, or of no class
  pub sorted : (k j : ℕ) → k < length order → has_part classes (slice_index order k) j ≡ true → j < length classes → (e : ℕ) × (e < k) × (slice_index order e ≡ j)
  -- it is no longer than the list of the classes
  pub short : length order ≤ length classes

-- Whether some class contains itself: at a part of some class begins a chain of as many steps as there are classes, so that a class stands in it twice.
unfoldable pub contains_itself : List (List ℕ) → Bool
contains_itself classes = list_any (list_any (has_chain (length classes) classes)) classes
