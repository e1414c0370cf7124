-- Where all is quiet, all controllers agree: on who lives, on imports, on who is linked by name, and on peers.
-- The law `all_agree`: so it is in every run of the world that is quiet at its end, and in the world that the
-- journals of a whole run lead to, where the run is done. Premises: actors and lines send nothing at
-- priority 0, which is the system's; actors register service points alone; slots are numbered depth first,
-- each slot's owner is a controller, and an imported slot is its container's owner's; partners are each
-- other's, and who may have to know of a slot is told of it (`IsMutual`).
use Rattle.std.specs.Prelude.{ℕ, List}
use Rattle.journal.specs.declared.entry.Entry.{Entry}
use Rattle.journal.specs.declared.entry.Left.{Left}
use Rattle.room_wiring.specs.declared.tables.Tables.{Tables}
use Rattle.actor_merge.specs.Parties.{Line}
use Rattle.actor_merge.specs.World.{World, Placed, IsQuiet}
use Rattle.actor_world.specs.Behaviour.{Behaviour}
use Rattle.actor_world.specs.Body.{Body}
use Rattle.actor_world.specs.Start.{plant_of}
use Rattle.actor_world.specs.Directories.{IsOpen, AreOpen}
use Rattle.actor_world.specs.Journals.{IsLawfulRun, IsDone}
use Rattle.actor_world.specs.Agreed.{IsAgreed}
use Rattle.service_messages.specs.slot_runs.Runs.{IsDepthFirst}
use Rattle.law_agreement.specs.Trails.{RunsTo}
use Rattle.law_agreement.specs.Imports.{OwnersAreThere, PlacesAreLocal}
use Rattle.law_agreement.specs.Mutual.{IsMutual}
use Rattle.law_names.specs.Registrations.{RegistersPoints}

-- what is asked of a model's actors, its lines and its wiring
pub record Settles {M : Type 0} (model : Behaviour M) (t : Tables) (lines : List Line) : Type 0 where
  pub clear : IsOpen model
  pub clear_lines : AreOpen lines
  pub points : RegistersPoints t model
  pub first : IsDepthFirst t
  pub owners : OwnersAreThere t
  pub local : PlacesAreLocal t
  pub partners : IsMutual t

-- over every run of the world that is quiet at its end: all controllers agree
abbrev pub QuietWorldsAreAgreed : Type 0 → Type 0
QuietWorldsAreAgreed M =
    (model : Behaviour M) (t : Tables) (lines : List Line) → Settles model t lines
    → (xs : List Placed) (end : World (Body M)) → RunsTo model t lines xs end
    → IsQuiet (plant_of model t lines) end → IsAgreed t end

-- over every whole run that is done: in the world that its journals lead to, all controllers agree
abbrev pub DoneRunsAreAgreed : Type 0 → Type 0
DoneRunsAreAgreed M =
    (model : Behaviour M) (t : Tables) (lines : List Line) → Settles model t lines
    → (fuel : ℕ) (journals : ℕ → List Entry) (left_over : List Left) (unposted : List ℕ) (w : World (Body M))
    → IsLawfulRun model t lines fuel journals left_over w
    → IsDone (plant_of model t lines) w left_over unposted → IsAgreed t w
