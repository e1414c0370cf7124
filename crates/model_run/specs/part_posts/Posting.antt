-- The environment posts the lines of a part.
use Rattle.std.specs.Prelude.{◌≡◌, ℕ, List, ◌++◌, length, drop}
use Rattle.journal.specs.declared.entry.Entry.{Entry}
use Rattle.inject_reader.specs.declared.inject_lines.accepted.Line.{Line}
use Rattle.mail_core.specs.EndLog.{EndLog}
use Rattle.actor_world.specs.Journals.{Item, lines_of}
use Rattle.model_run.specs.run_rounds.LineParts.{CutAt, PostsPart}
use Rattle.model_run.specs.run_rounds.Rounds.{PostsAbove}
use Rattle.controller_mail.specs.MailState.{EnvironmentState, environment_of}
use Rattle.controller_actors.specs.declared.plant.Plant.{Plant}
use Rattle.controller.specs.Controllers.{EndGoes, run_plant}
use Rattle.controller.specs.Calls.{PostsWithin}
use Rattle.model_run.specs.part_posts.Items.{items_of}

-- of these lines all before line `to` were posted, one entry each, and what the environment's end posted are
-- these entries, all above the system level; if a whole text is cut at these lines at part q, they are lines of part q, and the text is cut
-- behind what was posted at part q again
pub record PostsUpTo (plant : Plant) (lines : List Line) (to : ℕ) (old new : EnvironmentState) (log log' : EndLog) : Type 0 where
  pub entries : List Entry
  pub journal : new.journal ≡ old.journal ++ entries
  pub count : length entries ≡ to
  pub end : EndGoes (length plant.wiring.controllers) log log' entries
  pub within : PostsWithin (length plant.wiring.controllers) entries
  pub above : PostsAbove entries
  pub posts : (whole rest : List Item) (q : ℕ) → CutAt whole (items_of plant.wiring lines ++ rest) (length old.journal) q
      → PostsPart (run_plant plant (lines_of whole)) (environment_of old) (environment_of new) entries q
      × CutAt whole (drop to (items_of plant.wiring lines) ++ rest) (length new.journal) q

-- all of them were posted
abbrev pub PostsThePart : Plant → List Line → EnvironmentState → EnvironmentState → EndLog → EndLog → Type 0
PostsThePart plant lines old new log log' = PostsUpTo plant lines (length lines) old new log log'
