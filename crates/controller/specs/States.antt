-- The state of a controller without its journal.
-- `Makes`: a call did what its entry says, as the world's definitions have it, whatever lines the environment
-- posts. `TakesTurn` says more of a turn: it was counted, and what waits stays within the controllers.
use Rattle.std.specs.Prelude.{◌≡◌, ℕ, ◌+◌, ◌<◌, true, List, [], length}
use Rattle.journal.specs.declared.entry.Entry.{Entry}
use Rattle.actor_merge.specs.Parties.{State, Line, Does}
use Rattle.actor_world.specs.Body.{Body}
use Rattle.actor_world.specs.Journals.{is_turn}
use Rattle.chart_behaviour.specs.ModelCharts.{Actor}
use Rattle.controller_mail.specs.MailState.{MailState, state_of}
use Rattle.controller_mail.specs.Within.{WaitsWithin}
use Rattle.controller_actors.specs.Bodies.{IsWell, body_of}
use Rattle.controller_actors.specs.declared.plant.Plant.{Plant}
use Rattle.controller.specs.Controllers.{run_plant}
use Rattle.controller.specs.declared.controller_state.ControllerState.{ControllerState}

-- the mail of a controller that keeps this journal
abbrev pub mail_with : ControllerState → List Entry → MailState
mail_with s journal = record {
  clock = s.mail.clock;
  turns = s.mail.turns;
  pending = s.mail.pending;
  outbox = s.mail.outbox;
  journal = journal;
}

-- the state, as the world's definitions see it
abbrev pub shown_in : Plant → ControllerState → State (Body Actor)
shown_in plant s = state_of (mail_with s []) (body_of plant s.me.0 s.actors)

-- it is that of a controller of this plant
pub record IsStateOf (plant : Plant) (s : ControllerState) : Type 0 where
  pub me : s.me.0 < length plant.wiring.controllers
  pub well : IsWell plant s.me.0 s.actors

-- the controller did by itself what this entry says
pub record Makes (plant : Plant) (old new : ControllerState) (e : Entry) : Type 0 where
  pub me : new.me ≡ old.me
  pub does : (lines : List Line) → Does (run_plant plant lines) old.me.0 (shown_in plant old) e (shown_in plant new)

-- the entry is that of a turn, which was counted; if what waited went to controllers that there are, among so
-- many, so does what waits now
pub record TakesTurn (controllers : ℕ) (old new : ControllerState) (e : Entry) : Type 0 where
  pub is : is_turn e ≡ true
  pub counted : new.mail.turns ≡ old.mail.turns + 1
  pub waits : WaitsWithin controllers (mail_with old []) → WaitsWithin controllers (mail_with new [])
