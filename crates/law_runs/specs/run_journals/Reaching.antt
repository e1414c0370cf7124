-- What controllers post goes to controllers that there are, at one of the six priorities.
-- This is a point of the definition of journals that fit a wiring (`Fits` of `journal`).
use Rattle.std.specs.Prelude.{ℕ, ◌≤◌, ◌<◌, List, length}
use Rattle.room_kinds.specs.declared.message.Msg.{Msg}
use Rattle.room_wiring.specs.declared.tables.Tables.{Tables}
use Rattle.journal.specs.declared.entry.Entry.{Entry}
use Rattle.journal.specs.declared.entry.Entry.TheVariants as entry
use Rattle.journal.specs.declared.entry.Journals.{Journals}
use Rattle.inject_reader.specs.declared.inject_lines.accepted.Line.{Line}
use Rattle.chart_behaviour.specs.sends.Sends.{OwnersAreThere, is_ranked}
use Rattle.chart_behaviour.specs.Asked.{ClassesAsk}
use Rattle.controller_actors.specs.declared.plant.Plant.{Plant}
use Rattle.model_run.specs.run_ends.Runs.{IsRun}
use Rattle.law_runs.specs.run_journals.InPlace.{OfControllers}
use Rattle.law_runs.specs.run_journals.Outside.{LinesName}

-- a message goes to a controller, at one of the six priorities
pub record ReachesController (t : Tables) (m : Msg) : Type 0 where
  pub controller : m.to.0 < length t.controllers
  pub priority : m.prio.0 ≤ 5

-- the message that an entry posts does
abbrev pub NamesReceiver : Tables → Entry → Type 0
NamesReceiver t (entry.Post stamp m) = ReachesController t m
NamesReceiver t (entry.Fetch stamp m) = Unit {0}
NamesReceiver t (entry.Start who state notes) = Unit {0}
NamesReceiver t (entry.Turn stamp from sent did notes) = Unit {0}

-- over every run of a plant whose programs send at no other priority, over lines that name what its wiring has
abbrev pub RunsReachControllers : Type 0
RunsReachControllers =
    (plant : Plant) (lines : List Line) → OwnersAreThere plant.wiring → ClassesAsk is_ranked plant.tables.items → LinesName plant.wiring lines
    → (fuel : ℕ) (j : Journals) → IsRun plant lines fuel j → OfControllers j (λ c. NamesReceiver plant.wiring)
