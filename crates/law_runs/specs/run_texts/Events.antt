-- A run is told by which events its parties do, each in its own order.
use Rattle.std.specs.Prelude.{◌≡◌, ℕ, List, map}
use Rattle.actor_merge.specs.Mail.{event_of}
use Rattle.actor_merge.specs.Parties.{Plant}
use Rattle.actor_merge.specs.World.{World, Placed, Runs}
use Rattle.actor_merge.specs.Merge.{InOrder, entries_of}

-- in two runs each party does the same events, in the same order
abbrev pub SameEvents : List Placed → List Placed → Type 0
SameEvents xs ys = (party : ℕ) → map event_of (entries_of party xs) ≡ map event_of (entries_of party ys)

-- two runs of one world, each in order of stamps and parties, in which each party does the same events,
-- are one: they have the same entries, and lead to the same world
abbrev pub EventsTellRuns : Type 0 → Type 0
EventsTellRuns B =
    (plant : Plant B) (w : World B) (xs ys : List Placed) (end other : World B) → InOrder xs → InOrder ys
    → Runs plant w xs end → Runs plant w ys other → SameEvents xs ys → (xs ≡ ys) × (end ≡ other)
