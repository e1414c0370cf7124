-- A run from round to round.
use Rattle.std.specs.Prelude.{◌≡◌, ℕ, ◌+◌, ◌-◌, ◌^◌, ◌<◌, Bool, true, false, if◌then◌else◌, [], not, List, length}
use Rattle.std.specs.List.{list_all, list_any}
use Rattle.room_kinds.specs.declared.message.Msg.{Msg}
use Rattle.inject_reader.specs.declared.inject_lines.accepted.Line.{Line}
use Rattle.mail_core.specs.EndLog.{EndLog}
use Rattle.actor_world.specs.Journals.{Item}
use Rattle.controller_actors.specs.declared.plant.Plant.{Plant}
use Rattle.controller.specs.View.{Controller}
use Rattle.model_run.specs.declared.run_loop.state.Run.{Run}
use Rattle.model_run.specs.joined_round.ByPriority.{AreByPriority}
use Rattle.model_run.specs.joined_round.Joined.{AllStand, RoundDone}
use Rattle.model_run.specs.part_posts.Items.{items_of}
use Rattle.model_run.specs.run_ends.Ends.{waits, IsAtEnd}
use Rattle.model_run.specs.run_loop.Plays.{BeforePart, InPart, rests}

-- the run stands before a part or in one, and these lines were given so far, to the end of the part
pub record StandsBetween (plant : Plant) (given part : List Line) (fuel : ℕ) (run : Run) : Type 0 where
  pub before : run.in_part ≡ false → BeforePart plant (items_of plant.wiring given) part fuel run.controllers.items run.environment
  pub within : run.in_part ≡ true → InPart plant (items_of plant.wiring given) fuel run.controllers.items run.environment

-- a round has begun, whose ends did this so far, each post in the lane of its priority: whatever the
-- controllers do in the round, after it the run stands in a part
pub record IsInRound (plant : Plant) (gone : List Item) (fuel : ℕ) (run : Run) (logs : List EndLog) : Type 0 where
  pub stand : AllStand plant run.controllers.items
  pub in_part : run.in_part ≡ true
  pub by_priority : AreByPriority (length plant.wiring.controllers) logs
  pub goes_on : (news : List Controller) (logs' : List EndLog) (answer : List (List Msg)) → RoundDone plant run.controllers.items news logs logs' answer
      → InPart plant gone fuel news run.environment

-- the run is over: it is done if no message waits for a controller, and then no line is left; else it is spent
pub record IsOver (plant : Plant) (given : List Line) (left : List ℕ) (fuel : ℕ) (run : Run) : Type 0 where
  pub at_end : IsAtEnd plant (items_of plant.wiring given) fuel run.controllers.items run.environment (not (list_any waits run.controllers.items))
  pub whole : list_any waits run.controllers.items ≡ false → left ≡ []

-- after a part: the run stands before the next one, if there is one, and else is over
pub record StandsAtPart (plant : Plant) (given part : List Line) (left : List ℕ) (fuel : ℕ) (run : Run) (more : Bool) : Type 0 where
  pub before : more ≡ true → BeforePart plant (items_of plant.wiring given) part fuel run.controllers.items run.environment
  pub over : more ≡ false → IsOver plant given left fuel run

-- between two parts nothing was done, but the environment's clock may have caught up
pub record StaysAtPart (old new : Run) : Type 0 where
  pub controllers : new.controllers.items ≡ old.controllers.items
  pub journal : new.environment.journal ≡ old.environment.journal
  pub in_part : new.in_part ≡ old.in_part

-- a part began: the environment posted its lines, with an entry for each
pub record BeginsPart (lines : List Line) (old new : Run) : Type 0 where
  pub controllers : new.controllers.items ≡ old.controllers.items
  pub in_part : new.in_part ≡ true
  pub posted : length new.environment.journal ≡ length old.environment.journal + length lines
  pub counted : length new.environment.journal < 2 ^ 64

-- more parts than this one there will not be: each but the first posts something, and an entry of the journal
-- has a number of 64 bits
abbrev pub parts_left : Run → ℕ
parts_left run = (2 ^ 64 - length run.environment.journal) + (if run.in_part then 0 else 1)

-- how a round begins: some controller isn't at rest, and nothing is done before the round; or a part begins
pub data RoundBegins (fuel : ℕ) (old new : Run) : Type 0 where
  goes_on : list_all (rests fuel) old.controllers.items ≡ false → new ≡ old → RoundBegins fuel old new
  part_begins : new.controllers.items ≡ old.controllers.items → parts_left new < parts_left old → RoundBegins fuel old new
