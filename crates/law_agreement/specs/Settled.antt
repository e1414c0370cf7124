-- Wherever a whole run is done, all controllers agree on which actors live.
-- `LivesAgree`: each directory tells of each slot that is announced to it what stands there; the
-- body of each optional slot lives exactly where the slot does, whoever owns its parts; and each live
-- optional slot has a live container. The law `done_runs_agree`: so it is in the world that lawful
-- journals lead to, where nothing is left of the run.
-- Premises, beside that actors and lines send nothing at priority 0: the tables name only what they
-- have, and slots are numbered depth first; and the container of an optional slot that another
-- controller owns lives from the start.
-- The law `done_imports_agree`: in such a world they agree on imports too (`ImportsAgree`). Premises
-- there: an imported slot has a container, whose owner is its own, and each slot's owner is a controller.
use Rattle.std.specs.Prelude.{◌≡◌, ℕ, true, List, Some}
use Rattle.journal.specs.declared.entry.Entry.{Entry}
use Rattle.journal.specs.declared.entry.Left.{Left}
use Rattle.room_wiring.specs.declared.tables.Tables.{Tables}
use Rattle.room_wiring.specs.Consistent.{IsConsistent}
use Rattle.actor_merge.specs.Parties.{Line}
use Rattle.actor_merge.specs.World.{World}
use Rattle.actor_duties.specs.Words.{is_optional, container_of}
use Rattle.actor_world.specs.Behaviour.{Behaviour}
use Rattle.actor_world.specs.Body.{Body}
use Rattle.actor_world.specs.Start.{plant_of}
use Rattle.actor_world.specs.Directories.{IsOpen, AreOpen}
use Rattle.actor_world.specs.Agreed.{DirectoriesAgree, ImportsAgree}
use Rattle.actor_world.specs.Journals.{IsLawfulRun, IsDone}
use Rattle.service_messages.specs.slot_runs.Runs.{IsDepthFirst}
use Rattle.law_agreement.specs.Bodies.{lives_at, IsInBody, OthersLiveFromStart}
use Rattle.law_agreement.specs.Imports.{PlacesAreLocal, OwnersAreThere}
use Rattle.law_agreement.specs.Held.{PlacesAreContained}

-- all controllers agree on which actors live
pub record LivesAgree {M : Type 0} (t : Tables) (w : World (Body M)) : Type 0 where
  pub directories : DirectoriesAgree t w
  pub bodies : (o s : ℕ) → IsInBody t o s → lives_at t w s ≡ lives_at t w o
  pub containers : (s c : ℕ) → is_optional t s ≡ true → container_of t s ≡ Some c
      → lives_at t w s ≡ true → lives_at t w c ≡ true

-- over every whole run that is done: in the world that its journals lead to, all controllers agree
abbrev pub DoneRunsAgree : Type 0 → Type 0
DoneRunsAgree M =
    (model : Behaviour M) (t : Tables) (lines : List Line) → IsOpen model → AreOpen lines
    → IsConsistent t → IsDepthFirst t → OthersLiveFromStart t
    → (fuel : ℕ) (journals : ℕ → List Entry) (left_over : List Left) (unposted : List ℕ)
    → (w : World (Body M))
    → IsLawfulRun model t lines fuel journals left_over w
    → IsDone (plant_of model t lines) w left_over unposted → LivesAgree t w

-- over every whole run that is done: in the world that its journals lead to, all controllers agree on imports
abbrev pub DoneImportsAgree : Type 0 → Type 0
DoneImportsAgree M =
    (model : Behaviour M) (t : Tables) (lines : List Line) → IsOpen model → AreOpen lines
    → PlacesAreLocal t → OwnersAreThere t → PlacesAreContained t
    → (fuel : ℕ) (journals : ℕ → List Entry) (left_over : List Left) (unposted : List ℕ)
    → (w : World (Body M))
    → IsLawfulRun model t lines fuel journals left_over w
    → IsDone (plant_of model t lines) w left_over unposted → ImportsAgree t w
