-- The journals of a run of a plant that fits, over lines that fit.
-- `JournalsInPlace`: they are tied, and each entry is in its place; what controllers post goes to controllers, from
-- places of the wiring, or places that were linked by name, to such places, with signals that are there; the
-- environment's journal fits the wiring, and its posts go to such places; and what controllers tell of actors is so of
-- it. The law `fitting_runs_journals`.
-- So such journals fit the wiring, whole (`Fits` of `journal`): the law `fitting_journals_fit`.
use Rattle.std.specs.Prelude.{ℕ, List, All}
use Rattle.room_wiring.specs.declared.tables.Tables.{Tables}
use Rattle.journal.specs.Fits.{FitsEnvironment, Fits}
use Rattle.journal.specs.declared.entry.Journals.{Journals}
use Rattle.tied_journals.specs.Tied.{Tied}
use Rattle.inject_reader.specs.declared.inject_lines.accepted.Line.{Line}
use Rattle.controller_actors.specs.declared.plant.Plant.{Plant}
use Rattle.model_run.specs.run_ends.Runs.{IsRun}
use Rattle.law_runs.specs.run_journals.InPlace.{OfControllers, AreInPlace}
use Rattle.law_runs.specs.run_journals.Reaching.{NamesReceiver}
use Rattle.room_run.specs.fitting_journals.Actors.{TellsOfActors}
use Rattle.room_run.specs.fitting_journals.Places.{NamesItsPlaces}
use Rattle.room_run.specs.fitting_journals.Signals.{NamesSignal}
use Rattle.inject_reader.specs.Fitting.{LinesFit}
use Rattle.room_run.specs.fitting_plants.Plants.{PlantFits}

-- what is so of the journals
pub record JournalsInPlace (t : Tables) (j : Journals) : Type 0 where
  -- each fetch is told by the post that it names
  pub tied : Tied j
  -- each entry stands in the journal where it belongs, and what is left in order
  pub in_place : AreInPlace t j
  -- what controllers post goes to controllers, at one of the six priorities
  pub receivers : OfControllers j (λ c. NamesReceiver t)
  -- the environment's journal fits the wiring
  pub environment : All (FitsEnvironment t) j.environment
  -- who starts, acts and comes up is an actor of the wiring, in a state of its class; and who speaks names its ports
  pub actors : OfControllers j (λ c. TellsOfActors t)
  -- controllers post from places of the wiring, or places that were linked by name, to such places
  pub places : OfControllers j (λ c. NamesItsPlaces t j)
  -- and the environment posts to such places
  pub outside_places : All (NamesItsPlaces t j) j.environment
  -- with signals of the ports to which they post, or kinds of system messages
  pub signals : OfControllers j (λ c. NamesSignal t)

-- over every run of a plant that fits, over lines that fit
abbrev pub FittingRunsAreInPlace : Type 0
FittingRunsAreInPlace =
    (plant : Plant) (lines : List Line) (fuel : ℕ) (j : Journals) → PlantFits plant → LinesFit plant.wiring lines → IsRun plant lines fuel j
    → JournalsInPlace plant.wiring j

-- and its journals fit the wiring
abbrev pub FittingJournalsFit : Type 0
FittingJournalsFit =
    (plant : Plant) (lines : List Line) (fuel : ℕ) (j : Journals) → PlantFits plant → LinesFit plant.wiring lines → IsRun plant lines fuel j
    → Fits plant.wiring j
