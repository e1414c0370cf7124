-- Who is marked as told.
use Rattle.std.specs.Prelude.{◌≡◌, ℕ, ◌+◌, ◌*◌, ◌<◌, ◌==◌, ◌&&◌, ◌||◌, not, Bool, false, List, length, slice_index_or}
use Rattle.wiring_joins.specs.declared.tellings.marks.Marks.{Marks}

-- whether controller d is marked as told of slot s
unfoldable pub marked : Marks → ℕ → ℕ → Bool
marked m s d = slice_index_or m.everyone.items s false || slice_index_or m.each.items (s * m.controllers + d) false

-- There is a mark for each of so many slots, and one for each of them and each of so many controllers.
pub record IsFor (slots controllers : ℕ) (m : Marks) : Type 0 where
  pub width : m.controllers ≡ controllers
  pub everyone : length m.everyone.items ≡ slots
  pub each : length m.each.items ≡ slots * controllers

-- Those that were marked are marked still, and those that a test is true of.
pub record Marking (slots controllers : ℕ) (test : ℕ → ℕ → Bool) (before after : Marks) : Type 0 where
  pub size : IsFor slots controllers after
  pub marks : (s d : ℕ) → s < slots → d < controllers → marked after s d ≡ (test s d || marked before s d)

-- the first answers of a row
pub record IsRow (marks : Marks) (slot owner i : ℕ) (row : List Bool) : Type 0 where
  pub size : length row ≡ i
  pub answers : (d : ℕ) → d < i → slice_index_or row d false ≡ (not (owner == d) && marked marks slot d)
