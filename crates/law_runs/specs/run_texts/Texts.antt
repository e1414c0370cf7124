-- The text of a run's journals, in form 2, tells the run.
-- Who has the text of a run, its model and its injections, has the run: no other run of the model over
-- the lines has this text, however much fuel it had. So what is said of the journals of a run is said of
-- the bytes that are printed. The text has fewer than 2^64 bytes, as each has that a memory holds.
use Rattle.std.specs.Prelude.{◌≡◌, ℕ, ◌≤◌, ◌<◌, List, length, Contains}
use Rattle.room_kinds.specs.declared.message.Msg.{Msg}
use Rattle.room_wiring.specs.Consistent.{IsConsistent}
use Rattle.room_wiring.specs.WellNamed.{IsWellNamed}
use Rattle.journal.specs.declared.entry.Journals.{Journals}
use Rattle.tied_journals.specs.Text.{tied_text_of}
use Rattle.inject_reader.specs.Fitting.{LinesFit}
use Rattle.inject_reader.specs.declared.inject_lines.accepted.Line.{Line}
use Rattle.controller_actors.specs.declared.plant.Plant.{Plant}
use Rattle.actor_world.specs.world_laws.Whereabouts.{fetched}
use Rattle.model_run.specs.run_ends.Runs.{journal_of, IsRun}

-- what is fetched has one of the six priorities
abbrev pub AtSixPriorities : Journals → Type 0
AtSixPriorities j = (party : ℕ) (m : Msg) → Contains (fetched (journal_of j party)) m → m.prio.0 ≤ 5

-- no other run of this plant over these lines has the text of these journals, whatever its fuel; the text has
-- fewer than 2^64 bytes
abbrev pub TextTells : Plant → List Line → Journals → Type 0
TextTells plant lines j =
    length (tied_text_of plant.wiring j) < 18446744073709551616
    → (fuel : ℕ) (other : Journals) → IsRun plant lines fuel other
    → tied_text_of plant.wiring other ≡ tied_text_of plant.wiring j → other ≡ j

-- at a wiring whose names tell things apart, the text of each run tells it, where each line names what the
-- wiring has
abbrev pub TextsTellRuns : Type 0
TextsTellRuns =
    (plant : Plant) (lines : List Line) → IsConsistent plant.wiring → IsWellNamed plant.wiring
    → LinesFit plant.wiring lines → (fuel : ℕ) (j : Journals) → IsRun plant lines fuel j → TextTells plant lines j
