-- What a controller does with its end of the mail in a round.
use Rattle.std.specs.Prelude.{◌≡◌, ◌+◌, ◌≤◌, Bool, List, [], length, if◌then◌else◌}
use Rattle.journal.specs.declared.entry.Entry.{Entry}
use Rattle.mail_core.specs.EndLog.{EndLog}
use Rattle.model_run.specs.run_rounds.Rounds.{FetchesWithin}
use Rattle.model_run.specs.run_rounds.Prompts.{PromptFrom, EndsAs}
use Rattle.controller_actors.specs.declared.plant.Plant.{Plant}
use Rattle.controller.specs.Controllers.{Goes, EndGoes}
use Rattle.controller.specs.Calls.{PostsWithin}
use Rattle.controller.specs.View.{Controller}

-- some steps of a controller and of its end: what its end posted and took is what its journal says, what it
-- fetched came from the parties that there are, what it posted went to controllers that there are, its turns
-- were prompt, and it kept to its fuel
pub record Did (plant : Plant) (old new : Controller) (log log' : EndLog) : Type 0 where
  pub entries : List Entry
  pub goes : Goes plant old new entries
  pub end : EndGoes old.me.0 log log' entries
  pub within : FetchesWithin (length plant.wiring.controllers) entries
  pub posts : PostsWithin (length plant.wiring.controllers) entries
  pub prompt : (before : List Entry) → EndsAs old.me.0 before log → PromptFrom old.me.0 before entries
  pub fuelled : old.mail.turns ≤ old.fuel → new.mail.turns ≤ old.fuel

-- the same, and all that it had to post was posted
pub record Works (plant : Plant) (old new : Controller) (log log' : EndLog) : Type 0 where
  pub did : Did plant old new log log'
  pub posted : new.mail.outbox ≡ []

-- the turns were counted: one more if one was taken
abbrev pub Counted : Bool → Controller → Controller → Type 0
Counted turned old new = new.mail.turns ≡ (if turned then old.mail.turns + 1 else old.mail.turns)
