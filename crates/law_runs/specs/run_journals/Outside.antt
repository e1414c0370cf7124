-- What comes from outside fits the wiring: the environment's journal has posts alone, and each names what the
-- wiring has. This is a point of the definition of journals that fit a wiring (`Fits` of `journal`).
-- `LinesName` is what that asks of the lines; lines that fit do (`LinesFit`).
use Rattle.std.specs.Prelude.{◌≡◌, ℕ, ◌≤◌, Some, List, All}
use Rattle.std.specs.List.{AllByRecursion}
use Rattle.room_kinds.specs.declared.numbers.Endpoint.{Endpoint}
use Rattle.room_wiring.specs.Slots.{slot_at}
use Rattle.room_wiring.specs.declared.slot.Slot.{Slot}
use Rattle.room_wiring.specs.declared.tables.Tables.{Tables}
use Rattle.journal.specs.Fits.{HasSignal, FitsEnvironment}
use Rattle.journal.specs.declared.entry.Journals.{Journals}
use Rattle.inject_reader.specs.Fitting.{LinesFit}
use Rattle.inject_reader.specs.declared.inject_lines.accepted.Line.{Line}
use Rattle.inject_reader.specs.declared.inject_lines.accepted.What.{What}
use Rattle.inject_reader.specs.declared.inject_lines.accepted.What.TheVariants as whats
use Rattle.chart_behaviour.specs.sends.Sends.{OwnersAreThere}
use Rattle.controller_actors.specs.declared.plant.Plant.{Plant}
use Rattle.model_run.specs.run_ends.Runs.{IsRun}

-- a message for a slot of the wiring, with a signal of the port that it is for, and not at the system's priority
pub record NamesPlace (t : Tables) (target : Endpoint) (signal prio : ℕ) : Type 0 where
  pub slot : Slot
  pub slot_is : slot_at t target.slot.0 ≡ Some slot
  pub known : HasSignal t target.slot.0 target.port signal
  pub worded : 1 ≤ prio

abbrev pub WhatNames : Tables → What → Type 0
WhatNames t whats.Settle = Unit {0}
WhatNames t (whats.Advance time) = Unit {0}
WhatNames t (whats.Message target signal payload prio) = NamesPlace t target signal prio.0

-- each line asks for such a message, or for none
abbrev pub LinesName : Tables → List Line → Type 0
LinesName t lines = AllByRecursion (λ (l : Line). WhatNames t l.what) lines

-- lines that fit do
abbrev pub FitLinesName : Type 0
FitLinesName = (t : Tables) (lines : List Line) → LinesFit t lines → LinesName t lines

-- over every run of every plant whose slots have owners, over lines that name what its wiring has
abbrev pub EnvironmentFits : Type 0
EnvironmentFits =
    (plant : Plant) (lines : List Line) → OwnersAreThere plant.wiring → LinesName plant.wiring lines
    → (fuel : ℕ) (j : Journals) → IsRun plant lines fuel j → All (FitsEnvironment plant.wiring) j.environment
