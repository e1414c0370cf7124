-- A controller as contracts see it.
use Rattle.std.specs.Prelude.{ℕ, Bool}
use Rattle.room_kinds.specs.declared.numbers.ControllerId.{ControllerId}
use Rattle.controller_mail.specs.MailState.{MailState}
use Rattle.controller_actors.specs.declared.actors.Actors.{Actors}

-- a controller: its number, its fuel, whether it has failed for want of memory, its mail with its journal, and
-- its actors
pub record Controller : Type 0 where
  pub me : ControllerId
  pub fuel : ℕ
  pub failed : Bool
  pub mail : MailState
  pub actors : Actors
