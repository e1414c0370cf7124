-- What is so of every run of a plant that fits, over lines that name what its wiring has.
-- `Settles`: the journals of each controller tell how its lives stand in the world that they lead to;
-- what a directory tells there was created; a message that was fetched is in one place of that world
-- alone; and a note `down` told how many messages were lost. There are no premises but that the plant
-- and the lines fit. The law `fitting_runs_settle`.
use Rattle.std.specs.Prelude.{◌≡◌, ◌≢◌, ℕ, ◌≤◌, ◌<◌, true, List, ◌∷◌, ◌++◌, length, Contains}
use Rattle.room_kinds.specs.declared.message.Msg.{Msg}
use Rattle.room_kinds.specs.declared.note.Note.{Note}
use Rattle.room_kinds.specs.declared.note.Note.TheVariants as notes
use Rattle.room_kinds.specs.declared.numbers.ControllerId.{ControllerId}
use Rattle.room_kinds.specs.declared.numbers.Incarnation.{Incarnation}
use Rattle.room_kinds.specs.declared.numbers.Stamp.{Stamp}
use Rattle.journal.specs.declared.entry.Did.{Did}
use Rattle.journal.specs.declared.entry.Entry.{Entry}
use Rattle.journal.specs.declared.entry.Entry.TheVariants as entry
use Rattle.journal.specs.declared.entry.Journals.{Journals}
use Rattle.inject_reader.specs.declared.inject_lines.accepted.Line.{Line}
use Rattle.actor_merge.specs.Parties.{Plant as RunPlant, State, Replays}
use Rattle.actor_duties.specs.Lives.{is_live}
use Rattle.actor_duties.specs.Words.{incarnation, owner_of}
use Rattle.actor_world.specs.Body.{Body}
use Rattle.actor_world.specs.Journals.{lines_of}
use Rattle.actor_world.specs.Life.{TellsLives, created}
use Rattle.actor_world.specs.Start.{first_state}
use Rattle.actor_world.specs.world_laws.OnePlace.{InOnePlace, InNoPlace}
use Rattle.actor_world.specs.world_laws.Whereabouts.{fetched, done_with}
use Rattle.chart_behaviour.specs.ModelCharts.{Actor}
use Rattle.controller.specs.Controllers.{run_plant}
use Rattle.controller_actors.specs.Plants.{model_of}
use Rattle.controller_actors.specs.declared.plant.Plant.{Plant}
use Rattle.model_run.specs.part_posts.Items.{items_of}
use Rattle.model_run.specs.run_ends.Runs.{journal_of, IsRun}
use Rattle.inject_reader.specs.Fitting.{LinesFit}
use Rattle.room_run.specs.fitting_plants.Plants.{PlantFits}

-- a plant with the lines that it runs over
abbrev pub running : Plant → List Line → RunPlant (Body Actor)
running plant lines = run_plant plant (lines_of (items_of plant.wiring lines))

-- where a controller begins
abbrev pub begins_at : Plant → ℕ → State (Body Actor)
begins_at plant c = first_state (model_of plant) plant.wiring c

-- what a controller is done with, by what happened to it
abbrev pub over_with : Plant → List Line → ℕ → List Entry → List Msg
over_with plant lines c happened = done_with (running plant lines) plant.wiring c (begins_at plant c) happened

-- a turn's note that an incarnation went down with so many messages is true: it lived before the turn, and had deferred so many
pub record WasLost (plant : Plant) (lines : List Line) (c : ℕ) (before : List Entry) (x : Incarnation) (lost : ℕ) : Type 0 where
  pub state : State (Body Actor)
  pub reached : Replays (running plant lines) c (begins_at plant c) before state
  pub lived : is_live state.body.frame.lives x ≡ true
  pub many : lost ≡ length (state.body.deferred x.slot.0)

-- what is so of each run of a plant that fits: of what happened to each controller behind its start, and of the world to which its journals lead
pub record Settles (plant : Plant) (lines : List Line) (fuel : ℕ) (j : Journals) (run : IsRun plant lines fuel j) : Type 0 where
  -- an incarnation that lives or has lived has exactly one create entry, and exactly one destroy entry if it lives no more; every other has neither; and both stand in the journal of its slot's owner
  pub lives : (c : ℕ) → c < length j.controllers → (x : Incarnation)
      → TellsLives plant.wiring c (run.world.controllers c).body.frame.lives x (journal_of j c)
  -- a generation that a directory tells was created, by the owner of its slot
  pub directories : (d s g : ℕ) → d < length j.controllers → owner_of plant.wiring s < length j.controllers
      → (run.world.controllers d).body.frame.told s ≡ g → 1 ≤ g → created (incarnation s g) (journal_of j (owner_of plant.wiring s)) ≡ 1
  -- a fetched message is in one place alone: pending, deferred by one live incarnation, or done with
  pub one_place : (c : ℕ) → c < length j.controllers → (m : Msg) → Contains (fetched (run.lawful.events c)) m
      → InOnePlace plant.wiring m (run.world.controllers c) (over_with plant lines c (run.lawful.events c))
  -- and in none of another controller
  pub nowhere_else : (c d : ℕ) → c < length j.controllers → d < length j.controllers → d ≢ c → (m : Msg) → Contains (fetched (run.lawful.events c)) m
      → InNoPlace plant.wiring m (run.world.controllers d) (over_with plant lines d (run.lawful.events d))
  -- where an incarnation goes down, its note tells how many messages it had deferred
  pub lost : (c : ℕ) → c < length j.controllers
      → (before after : List Entry) (stamp : Stamp) (from : ControllerId) (sent : Stamp) (what : Did) (ns : List Note) (x : Incarnation) (n : ℕ)
      → run.lawful.events c ≡ before ++ entry.Turn stamp from sent what ns ∷ after → Contains ns (notes.Down x n) → WasLost plant lines c before x n

-- so it is of every run of a plant that fits over lines that fit
abbrev pub FittingRunsSettle : Type 0
FittingRunsSettle =
    (plant : Plant) (lines : List Line) (fuel : ℕ) (j : Journals) → PlantFits plant → LinesFit plant.wiring lines
    → (run : IsRun plant lines fuel j) → Settles plant lines fuel j run
