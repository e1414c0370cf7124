-- Two runs over lines that may differ, where each controller's entries in one are the first of those in the
-- other. A quiet world does nothing by itself, so a run to it has all that follows from what was posted.
use Rattle.std.specs.Prelude.{◌≡◌, ℕ, ◌<◌, ◌⊎◌, List, ◌++◌}
use Rattle.journal.specs.declared.entry.Entry.{Entry}
use Rattle.actor_merge.specs.Parties.{Line, Plant}
use Rattle.actor_merge.specs.World.{World, Placed, start, Runs, IsQuiet}
use Rattle.actor_merge.specs.Merge.{InOrder, entries_of}

-- the whole is the front and then more
abbrev pub BeginsWith : List Entry → List Entry → Type 0
BeginsWith whole front = (more : List Entry) × (whole ≡ front ++ more)

-- of each controller, the entries in one run are the first of those in the other; in which, may differ
abbrev pub AreCuts : {B : Type 0} → Plant B → List Placed → List Placed → Type 0
AreCuts plant xs ys =
    (c : ℕ) → c < plant.controllers
    → BeginsWith (entries_of c xs) (entries_of c ys) ⊎ BeginsWith (entries_of c ys) (entries_of c xs)

-- a run to a quiet world has of each party all the entries that another run has in which the environment posts
-- no more
abbrev pub QuietRunsHoldAll : Type 0 → Type 0
QuietRunsHoldAll B =
    (plant : Plant B) (lines : List Line) (xs ys : List Placed) (end other : World B)
    → Runs plant (start plant) xs end → Runs (record plant { lines = lines }) (start plant) ys other
    → AreCuts plant xs ys → IsQuiet plant end
    → BeginsWith (entries_of plant.controllers xs) (entries_of plant.controllers ys)
    → (party : ℕ) → BeginsWith (entries_of party xs) (entries_of party ys)

-- two runs to quiet worlds, in order of stamps and parties, in which the environment posts the same, are one
abbrev pub QuietRunsAreOne : Type 0 → Type 0
QuietRunsAreOne B =
    (plant : Plant B) (lines : List Line) (xs ys : List Placed) (end other : World B)
    → Runs plant (start plant) xs end → Runs (record plant { lines = lines }) (start plant) ys other
    → AreCuts plant xs ys → IsQuiet plant end → IsQuiet plant other
    → entries_of plant.controllers xs ≡ entries_of plant.controllers ys
    → InOrder xs → InOrder ys → xs ≡ ys
