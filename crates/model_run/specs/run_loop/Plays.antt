-- How a run goes, part by part: the environment posts the lines of a part in its first round, and rounds go on
-- until the run has stopped. All is said of the items so far; what comes after them isn't known yet.
use Rattle.std.specs.Prelude.{◌≡◌, ℕ, ◌<◌, ◌+◌, ◌==◌, ◌&&◌, ◌||◌, nat_le, not, Bool, List, ◌++◌, length}
use Rattle.inject_reader.specs.declared.inject_lines.accepted.Line.{Line}
use Rattle.mail_core.specs.EndLog.{EndLog, fresh}
use Rattle.actor_merge.specs.Parties.{Environment, Line as RunLine}
use Rattle.actor_merge.specs.World.{IsQuiet, latest}
use Rattle.actor_world.specs.Journals.{Item, lines_of, last_part}
use Rattle.controller_mail.specs.MailState.{EnvironmentState, environment_of}
use Rattle.controller_actors.specs.declared.plant.Plant.{Plant}
use Rattle.controller.specs.Controllers.{run_plant, state_at}
use Rattle.controller.specs.View.{Controller}
use Rattle.model_run.specs.run_rounds.LineParts.{GoneTo}
use Rattle.model_run.specs.run_so_far.SoFar.{world_of, RunSoFar, EndsPosted}
use Rattle.model_run.specs.part_source.Parts.{IsPart}
use Rattle.model_run.specs.part_posts.Items.{items_of}
use Rattle.model_run.specs.part_posts.Posting.{PostsThePart}
use Rattle.model_run.specs.run_ends.Ends.{waits}

-- how the environment is before it posts these lines, a part of this number: as the world has it, in the part of
-- the last line posted; or the part is a later one that isn't empty, all is quiet, and its clock caught up with
-- those of all parties
pub data MayPost (plant : Plant) (gone : List Item) (lines : List Line) (ks : List Controller) (env : EnvironmentState) (v : Environment) (part : ℕ) : Type 0 where
  same_part : environment_of env ≡ v → ((rest : List Item) → last_part (lines_of (gone ++ rest)) v.posted ≡ part) → MayPost plant gone lines ks env v part
  later_part : environment_of env ≡ record v { clock = latest (state_at plant ks) (length plant.wiring.controllers) v.clock }
      → ((rest : List Item) → last_part (lines_of (gone ++ rest)) v.posted < part) → 0 < length lines
      → ((all : List RunLine) → IsQuiet (run_plant plant all) (world_of plant ks v)) → MayPost plant gone lines ks env v part

-- a run before these lines, a part that isn't posted yet: of all items so far it is the last
pub record BeforePart (plant : Plant) (all : List Item) (lines : List Line) (fuel : ℕ) (ks : List Controller) (env : EnvironmentState) : Type 0 where
  -- the environment as the world has it
  pub v : Environment
  -- the items before the part
  pub gone : List Item
  pub is : all ≡ gone ++ items_of plant.wiring lines
  pub of : IsPart lines
  pub so_far : RunSoFar plant gone fuel ks v env.journal
  pub part : ℕ
  pub cut : GoneTo gone (length env.journal) part
  pub may : MayPost plant gone lines ks env v part

-- a run in a part: all items so far were posted
pub record InPart (plant : Plant) (gone : List Item) (fuel : ℕ) (ks : List Controller) (env : EnvironmentState) : Type 0 where
  pub so_far : RunSoFar plant gone fuel ks (environment_of env) env.journal
  pub part : ℕ
  pub cut : GoneTo gone (length env.journal) part
  pub last : (rest : List Item) → last_part (lines_of (gone ++ rest)) (length env.journal) ≡ part

-- nothing is left to post, and no message waits unless the fuel is spent
abbrev pub rests : ℕ → Controller → Bool
rests fuel k = (length k.mail.outbox == 0) && (not (waits k) || nat_le fuel k.mail.turns)

-- the environment posted the lines of a part at its end, and no other end did anything
pub record PartPosted (plant : Plant) (lines : List Line) (old new : EnvironmentState) (logs : List EndLog) : Type 0 where
  pub log : EndLog
  pub part : PostsThePart plant lines old new (fresh (length plant.wiring.controllers + 1) (length plant.wiring.controllers)) log
  pub ends : EndsPosted (length plant.wiring.controllers) logs part.entries
