-- A run of the world and the world to which it leads.
use Rattle.std.specs.Prelude.{◌≡◌, List}
use Rattle.actor_merge.specs.Parties.{Plant}
use Rattle.actor_merge.specs.World.{World, Placed, Runs, latest_of}
use Rattle.actor_merge.specs.History.{AllAtMost}

-- no stamp of a run is above the greatest clock of the world to which it leads
abbrev pub RunsAreBounded : Type 0 → Type 0
RunsAreBounded B =
    (plant : Plant B) (w : World B) (xs : List Placed) (end : World B)
    → Runs plant w xs end → AllAtMost (latest_of plant end) xs

-- the same entries lead from a world to one other
abbrev pub EndsAreOne : Type 0 → Type 0
EndsAreOne B =
    (plant : Plant B) (w : World B) (xs : List Placed) (end other : World B)
    → Runs plant w xs end → Runs plant w xs other → end ≡ other
