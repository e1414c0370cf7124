-- A run between two rounds: its world, and what holds of its journals.
-- `world_of` is the world of controllers that stand between two rounds. `RunSoFar`: their journals
-- are a history that leads to this world, the turns were prompt, and no controller took more turns
-- than its fuel. It speaks of the items so far, and holds whatever items come after them.
-- `EnvironmentPosts`: the environment may post these entries in the next round. The law
-- `round_goes_on`: a run so far in which the environment posts and all controllers join in a round
-- is a run so far again.
use Rattle.std.specs.Prelude.{◌≡◌, ℕ, ◌+◌, ◌<◌, ◌≤◌, ◌⊎◌, true, false, List, [], ◌++◌, length, slice_get, Some}
use Rattle.room_kinds.specs.declared.message.Msg.{Msg}
use Rattle.journal.specs.declared.entry.Entry.{Entry}
use Rattle.mail_core.specs.EndLog.{EndLog, fresh}
use Rattle.mail_core.specs.Lanes.{log_at}
use Rattle.actor_merge.specs.Parties.{Environment, Line, begins}
use Rattle.actor_merge.specs.World.{World, IsQuiet}
use Rattle.actor_merge.specs.Merge.{EnvironmentGoes}
use Rattle.actor_merge.specs.History.{IsHistory}
use Rattle.actor_world.specs.Body.{Body}
use Rattle.actor_world.specs.Journals.{Item, lines_of}
use Rattle.actor_world.specs.Start.{start_entries}
use Rattle.chart_behaviour.specs.ModelCharts.{Actor}
use Rattle.model_run.specs.run_rounds.Rounds.{EndDid, PostsAbove}
use Rattle.model_run.specs.run_rounds.Prompts.{PromptFrom, OwnFetched}
use Rattle.controller_actors.specs.Plants.{model_of}
use Rattle.controller_actors.specs.declared.plant.Plant.{Plant}
use Rattle.controller.specs.Controllers.{run_plant, state_at}
use Rattle.controller.specs.Calls.{PostsWithin}
use Rattle.controller.specs.View.{Controller}
use Rattle.model_run.specs.joined_round.Joined.{AllStand, RoundDone}

-- between two rounds no lane holds a message
abbrev pub world_of : Plant → List Controller → Environment → World (Body Actor)
world_of plant ks v = record { controllers = state_at plant ks; environment = v; lanes = λ l. [] }

-- the whole journal of a controller
abbrev pub whole : Plant → (ℕ → List Entry) → ℕ → List Entry
whole plant events c = start_entries (model_of plant) plant.wiring c ++ events c

-- the journals are a history, each controller's turns were prompt, and each fetched all that it posted to
-- itself
pub record IsSound (plant : Plant) (lines : List Line) (events : ℕ → List Entry) (w : World (Body Actor)) : Type 0 where
  pub history : IsHistory (run_plant plant lines) events w
  pub prompt : (c : ℕ) → c < length plant.wiring.controllers → PromptFrom c [] (whole plant events c)
  pub even : (c : ℕ) → c < length plant.wiring.controllers → OwnFetched c (whole plant events c)

-- a run so far over these items, in which the environment posted these entries: each post went to a controller
-- that is there, at a priority that is there; and it is sound, whatever items come after them
pub record RunSoFar (plant : Plant) (gone : List Item) (fuel : ℕ) (ks : List Controller) (v : Environment) (posts : List Entry) : Type 0 where
  pub stand : AllStand plant ks
  pub fuel_is : (c : ℕ) (k : Controller) → slice_get ks c ≡ Some k → k.fuel ≡ fuel
  pub fuelled : (c : ℕ) (k : Controller) → slice_get ks c ≡ Some k → k.mail.turns ≤ fuel
  pub events : ℕ → List Entry
  pub journals : (c : ℕ) (k : Controller) → slice_get ks c ≡ Some k → k.mail.journal ≡ whole plant events c
  pub posted : events (length plant.wiring.controllers) ≡ posts
  pub nobody : (party : ℕ) → length plant.wiring.controllers < party → events party ≡ []
  pub within : (party : ℕ) → PostsWithin (length plant.wiring.controllers) (events party)
  pub sound : (rest : List Item) → IsSound plant (lines_of (gone ++ rest)) events (world_of plant ks v)

-- the ends of a round before its workers: the environment posted these entries to controllers that there are,
-- above the system level; the controllers did nothing
pub record EndsPosted (n : ℕ) (logs : List EndLog) (es : List Entry) : Type 0 where
  pub count : length logs ≡ n + 1
  pub controllers : (c : ℕ) → c < n → log_at logs c ≡ fresh (n + 1) c
  pub environment : EndDid n (log_at logs n) es
  pub within : PostsWithin n es
  pub above : PostsAbove es

-- the environment's posts in a round, from this world on
pub record EnvironmentPosts (plant : Plant) (lines : List Line) (w : World (Body Actor)) (es : List Entry) (v : Environment) : Type 0 where
  pub goes : EnvironmentGoes (run_plant plant lines) w es v
  pub quiet : begins (run_plant plant lines) w.environment.posted ≡ true → (es ≡ []) ⊎ IsQuiet (run_plant plant lines) w
  pub one_part : (line : ℕ) → w.environment.posted < line → line < w.environment.posted + length es → begins (run_plant plant lines) line ≡ false

-- a run goes on by a round
abbrev pub RoundGoesOn : Type 0
RoundGoesOn =
    (plant : Plant) (gone : List Item) (fuel : ℕ) (ks news : List Controller) (v after : Environment) (posts es : List Entry) (logs logs' : List EndLog) (answer : List (List Msg))
    → RunSoFar plant gone fuel ks v posts → EndsPosted (length plant.wiring.controllers) logs es
    → ((rest : List Item) → EnvironmentPosts plant (lines_of (gone ++ rest)) (world_of plant ks v) es after)
    → RoundDone plant ks news logs logs' answer → RunSoFar plant gone fuel news after (posts ++ es)
