-- What is left in the world of a replay, told one message after another.
use Rattle.std.specs.Prelude.{◌≡◌, ℕ, List, ◌∷◌, ◌++◌, true, false, map, Option, Some, None}
use Rattle.std.specs.List.{flat_map, range_with_len}
use Rattle.journal.specs.declared.entry.Left.{Left}
use Rattle.actor_merge.specs.Mail.{lane}
use Rattle.actor_world.specs.Journals.{left, priorities}
use Rattle.controller_mail.specs.MailState.{pending_of}
use Rattle.controller.specs.declared.controller_state.ControllerState.{ControllerState}
use Rattle.room_verify.specs.Lanes.{LaneQueues, lanes_in}

-- these messages stand at the front of what is told, and this stands behind them; or they don't stand there
abbrev pub Strips : List Left → List Left → Option (List Left) → Type 0
Strips told front None = (more : List Left) → told ≡ front ++ more → ⊥
Strips told front (Some rest) = told ≡ front ++ rest

-- the messages that wait for controller c's turns, by priority
abbrev pub waiting_for : ℕ → ControllerState → List Left
waiting_for c s = flat_map (λ p. map (left c true) (pending_of s.mail.pending p)) priorities

-- the messages on their way to controller c at a priority, those of the environment first
abbrev pub coming_at : ℕ → LaneQueues → ℕ → List Left
coming_at c lanes p = flat_map (λ s. map (left c false) (lanes_in lanes (lane s c p))) (lanes.controllers ∷ range_with_len 0 lanes.controllers)

-- and at all priorities
abbrev pub coming_to : ℕ → LaneQueues → List Left
coming_to c lanes = flat_map (coming_at c lanes) priorities
