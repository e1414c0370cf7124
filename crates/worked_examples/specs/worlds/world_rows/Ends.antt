-- How a run ends that the definitions give.
use Rattle.std.specs.Prelude.{◌≡◌, List, [], ◌∷◌, map, length, replicate, Option, Some, option_map, option_and_then}
use Rattle.std.specs.List.{range_with_len}
use Rattle.journal.specs.declared.entry.Left.{Left}
use Rattle.room_wiring.specs.declared.tables.Tables.{Tables}
use Rattle.actor_merge.specs.Mail.{event_of}
use Rattle.actor_merge.specs.Parties.{Line, Plant}
use Rattle.actor_merge.specs.World.{World, Placed, start, happens}
use Rattle.actor_world.specs.Behaviour.{Behaviour}
use Rattle.actor_world.specs.Body.{Body}
use Rattle.actor_world.specs.Journals.{left_of}
use Rattle.actor_world.specs.Start.{plant_of}

-- the world after the events that these entries name; none where an event isn't allowed
abbrev pub world_after : {B : Type 0} → Plant B → World B → List Placed → Option (World B)
world_after plant w [] = Some w
world_after plant w (x ∷ xs) = option_and_then (λ r. world_after plant r.0 xs) (happens plant w x.party (event_of x.entry))

-- the world at the end of a run from the start
abbrev pub last_world : {M : Type 0} → Behaviour M → Tables → List Line → List Placed → Option (World (Body M))
last_world model t lines merge = world_after (plant_of model t lines) (start (plant_of model t lines)) merge

-- At the end every line was posted, every outbox is empty, and these messages are left. Where none is left all is quiet.
pub record EndsWith {M : Type 0} (model : Behaviour M) (t : Tables) (lines : List Line) (merge : List Placed) (left : List Left) : Type 0 where
  pub over : option_map (left_of (plant_of model t lines)) (last_world model t lines merge) ≡ Some left
  pub posted : option_map (λ w. w.environment.posted) (last_world model t lines merge) ≡ Some (length lines)
  pub silent : option_map (λ w. map (λ c. (w.controllers c).outbox) (range_with_len 0 (length t.controllers))) (last_world model t lines merge) ≡ Some (replicate (length t.controllers) [])
