-- In a quiet world all controllers agree on imports.
-- The law `imports_agree`: in every run of the world that is quiet at its end each import place of a live
-- container is empty or holds a home, it holds a home exactly where the home lives and has the place among
-- its plugs, where it stands once, and each plug is an import place of a live container. It follows from the
-- rows of the pairs (`loans_keep_rows`), in which nothing is on its way. Premises beside those of the rows:
-- each slot's owner is a controller; and an imported slot has a container.
use Rattle.std.specs.Prelude.{◌≡◌, ℕ, true, List, Some}
use Rattle.room_wiring.specs.declared.tables.Tables.{Tables}
use Rattle.actor_merge.specs.Parties.{Line}
use Rattle.actor_merge.specs.World.{World, Placed, IsQuiet}
use Rattle.actor_duties.specs.Words.{is_imported, container_of}
use Rattle.actor_world.specs.Behaviour.{Behaviour}
use Rattle.actor_world.specs.Body.{Body}
use Rattle.actor_world.specs.Start.{plant_of}
use Rattle.actor_world.specs.Directories.{IsOpen, AreOpen}
use Rattle.actor_world.specs.Agreed.{ImportsAgree}
use Rattle.law_agreement.specs.Trails.{RunsTo}
use Rattle.law_agreement.specs.Imports.{PlacesAreLocal, OwnersAreThere}

-- each imported slot has a container
abbrev pub PlacesAreContained : Tables → Type 0
PlacesAreContained t = (i : ℕ) → is_imported t i ≡ true → (c : ℕ) × (container_of t i ≡ Some c)

-- over every run of the world that is quiet at its end: all controllers agree on imports
abbrev pub QuietImportsAgree : Type 0 → Type 0
QuietImportsAgree M =
    (model : Behaviour M) (t : Tables) (lines : List Line) → IsOpen model → AreOpen lines
    → PlacesAreLocal t → OwnersAreThere t → PlacesAreContained t
    → (xs : List Placed) (end : World (Body M)) → RunsTo model t lines xs end
    → IsQuiet (plant_of model t lines) end → ImportsAgree t end
