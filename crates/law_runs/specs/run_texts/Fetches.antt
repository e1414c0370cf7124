-- Whom the fetched messages of a run name: a party as their sender, the controller that fetches them, and
-- one of the six priorities.
use Rattle.std.specs.Prelude.{◌≡◌, ℕ, ◌≤◌, List, Contains, length}
use Rattle.room_kinds.specs.declared.message.Msg.{Msg}
use Rattle.journal.specs.declared.entry.Journals.{Journals}
use Rattle.inject_reader.specs.Fitting.{LinesFit}
use Rattle.inject_reader.specs.declared.inject_lines.accepted.Line.{Line}
use Rattle.controller_actors.specs.declared.plant.Plant.{Plant}
use Rattle.actor_world.specs.world_laws.Whereabouts.{fetched}
use Rattle.model_run.specs.run_ends.Runs.{journal_of, IsRun}

-- a message that this controller fetches, among so many: it comes from one of them or from the environment,
-- to this one, at a priority from 0 to 5
pub record FetchFits (controllers c : ℕ) (m : Msg) : Type 0 where
  pub from : m.from.0 ≤ controllers
  pub to : m.to.0 ≡ c
  pub priority : m.prio.0 ≤ 5

-- so it is of all that is fetched
abbrev pub FetchesFit : Plant → Journals → Type 0
FetchesFit plant j = (c : ℕ) (m : Msg) → Contains (fetched (journal_of j c)) m → FetchFits (length plant.wiring.controllers) c m

-- over every run of a plant over lines that name what the wiring has
abbrev pub RunsFetchWhatFits : Type 0
RunsFetchWhatFits =
    (plant : Plant) (lines : List Line) → LinesFit plant.wiring lines
    → (fuel : ℕ) (j : Journals) → IsRun plant lines fuel j → FetchesFit plant j
