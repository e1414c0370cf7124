-- The world in which a replay of journals stands.
-- `world_in` is that world; `Replays`: the replay is one of this plant over these lines, and has posted all messages
-- before the line at which its environment stands.
use Rattle.std.specs.Prelude.{◌≡◌, ℕ, ◌+◌, ◌≤◌, nat_lt, List, drop, length, slice_get, Option, Some, None, if◌then◌else◌}
use Rattle.room_kinds.specs.declared.message.Msg.{Msg}
use Rattle.journal.specs.declared.entry.Entry.{Entry}
use Rattle.journal.specs.declared.entry.Entry.TheVariants as entry
use Rattle.actor_merge.specs.Mail.{Event}
use Rattle.actor_merge.specs.Parties.{Environment, Line as RunLine, Plant as RunPlant, stamped}
use Rattle.actor_merge.specs.World.{World, latest}
use Rattle.actor_world.specs.Body.{Body}
use Rattle.actor_world.specs.Journals.{Message, lines_of, last_part}
use Rattle.chart_behaviour.specs.ModelCharts.{Actor}
use Rattle.inject_reader.specs.declared.inject_lines.accepted.Line.{Line}
use Rattle.controller_actors.specs.declared.plant.Plant.{Plant}
use Rattle.controller.specs.Controllers.{run_plant}
use Rattle.controller.specs.declared.controller_state.ControllerState.{ControllerState}
use Rattle.model_run.specs.part_posts.Items.{item_of, items_of}
use Rattle.model_run.specs.run_rounds.LineParts.{CutAt}
use Rattle.room_verify.specs.Steps.{Happens, IsBarred}
use Rattle.room_verify.specs.Lanes.{lanes_in, PutsInto}
use Rattle.room_verify.specs.States.{controllers_in, IsAt}
use Rattle.room_verify.specs.declared.line_cursor.LineCursor.{LineCursor}
use Rattle.room_verify.specs.declared.replay.Replay.{Replay}

-- what a run of this plant over these lines is made of
abbrev pub plan : Plant → List Line → RunPlant (Body Actor)
plan plant lines = run_plant plant (lines_of (items_of plant.wiring lines))

-- the environment, as the world's definitions see it
abbrev pub environment_in : LineCursor → Environment
environment_in v = record { clock = v.clock; posted = v.posted }

-- the world of a replay
abbrev pub world_in : Plant → Replay → World (Body Actor)
world_in plant r = record {
  controllers = controllers_in plant r.controllers.items;
  environment = environment_in r.environment;
  lanes = lanes_in r.lanes;
}

-- the environment has posted the messages of all lines before the one at which it stands. That line is of the part of
-- the last message posted, but for `settle` lines that stand there.
pub record StandsIn (plant : Plant) (lines : List Line) (v : LineCursor) : Type 0 where
  pub within : v.at ≤ length lines
  pub part : ℕ
  pub cut : CutAt (items_of plant.wiring lines) (items_of plant.wiring (drop v.at lines)) v.posted part
  pub last : part ≡ last_part (lines_of (items_of plant.wiring lines)) v.posted

-- there is a controller for each number, in order, and lanes between them
pub record Stands (plant : Plant) (r : Replay) : Type 0 where
  pub count : length r.controllers.items ≡ length plant.wiring.controllers
  pub each : (c : ℕ) (s : ControllerState) → slice_get r.controllers.items c ≡ Some s → IsAt plant c s
  pub lanes : r.lanes.controllers ≡ length plant.wiring.controllers

-- a replay of this plant over these lines
pub record Replays (plant : Plant) (lines : List Line) (r : Replay) : Type 0 where
  pub stands : Stands plant r
  pub environment : StandsIn plant lines r.environment

-- a controller's event, whatever lines the environment posts
pub record Moves (plant : Plant) (old new : Replay) (c : ℕ) (event : Event) (e : Entry) : Type 0 where
  pub happens : (lines : List RunLine) → Happens (run_plant plant lines) (world_in plant old) c event e (world_in plant new)
  pub stands : Stands plant new
  pub environment : new.environment ≡ old.environment

-- what came of an event of a controller: nothing, where it can't happen, or this entry
abbrev pub Moved : Plant → Replay → Replay → ℕ → Event → Option Entry → Type 0
Moved plant old new c event None = (lines : List RunLine) → IsBarred (run_plant plant lines) (world_in plant old) c event
Moved plant old new c event (Some e) = Moves plant old new c event e

-- an event of a party, in a run over these lines
pub record GoesOn (plant : Plant) (lines : List Line) (old new : Replay) (party : ℕ) (event : Event) (e : Entry) : Type 0 where
  pub happens : Happens (plan plant lines) (world_in plant old) party event e (world_in plant new)
  pub replays : Replays plant lines new

-- what came of an event of a party: nothing, where it can't happen, or this entry
abbrev pub Came : Plant → List Line → Replay → Replay → ℕ → Event → Option Entry → Type 0
Came plant lines old new party event None = IsBarred (plan plant lines) (world_in plant old) party event
Came plant lines old new party event (Some e) = GoesOn plant lines old new party event e

-- before a message behind so many `settle` lines the environment's clock catches up, if there are any
abbrev pub caught_up_in : Plant → Replay → ℕ → Environment
caught_up_in plant r settles =
    if nat_lt 0 settles then record (environment_in r.environment) { clock = latest (controllers_in plant r.controllers.items) (length plant.wiring.controllers) r.environment.clock }
    else environment_in r.environment

-- the environment stands as before, but for its clock
pub record CatchesUp (plant : Plant) (old new : Replay) (settles : ℕ) : Type 0 where
  pub environment : environment_in new.environment ≡ caught_up_in plant old settles
  pub others : new ≡ record old { environment = new.environment }
  pub at : new.environment.at ≡ old.environment.at

-- the environment has posted the message for which this line asks, with this entry, and stands behind so many lines
pub record PostsOf (plant : Plant) (old new : Replay) (line : Line) (behind : ℕ) (e : Entry) : Type 0 where
  pub message : Msg
  pub asked : item_of plant.wiring line.number line.what ≡ Message line.number message
  pub entry : let m = stamped (length plant.wiring.controllers) (old.environment.clock + 1) message in e ≡ entry.Post m.stamp m
  pub environment : new.environment ≡ record { clock = old.environment.clock + 1; posted = old.environment.posted + 1; at = behind }
  pub lanes : PutsInto old.lanes new.lanes (stamped (length plant.wiring.controllers) (old.environment.clock + 1) message)
  pub controllers : new.controllers ≡ old.controllers
