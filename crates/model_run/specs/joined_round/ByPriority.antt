-- Messages by their lanes: what ends have posted stands in the lane of its receiver and its priority, and at the
-- system level comes from controllers; so what is left of it goes to whom it is left for, is of one of the six
-- priorities, and may be answered.
use Rattle.std.specs.Prelude.{◌≡◌, ℕ, ◌<◌, List, [], All, length, slice_index_or}
use Rattle.std.specs.List.{AllByRecursion}
use Rattle.room_kinds.specs.declared.message.Msg.{Msg}
use Rattle.mail_core.specs.EndLog.{EndLog}
use Rattle.mail_core.specs.Lanes.{log_at}
use Rattle.controller_mail.specs.MailState.{HasPriority}
use Rattle.controller_mail.specs.Within.{IsAnswerable, IsFor, IsFrom}

-- messages to this receiver, of this priority
abbrev pub AreOfLane : ℕ → ℕ → List Msg → Type 0
AreOfLane r p ms = AllByRecursion (λ (m : Msg). IsFor r m × (m.prio.0 ≡ p)) ms

-- what an end has posted to a receiver at a priority goes to it, at that priority, and at the system level,
-- priority 0, it comes from one of so many controllers
pub record IsByPriority (controllers : ℕ) (log : EndLog) : Type 0 where
  pub own : (r p : ℕ) → AreOfLane r p (log.posted r p)
  pub system : (r : ℕ) → AllByRecursion (IsFrom controllers) (log.posted r 0)

-- so is it at each end
abbrev pub AreByPriority : ℕ → List EndLog → Type 0
AreByPriority controllers logs = (party : ℕ) → party < length logs → IsByPriority controllers (log_at logs party)

-- each of the messages left for a controller goes to it
abbrev pub AreForThem : List (List Msg) → Type 0
AreForThem answer = (c : ℕ) → All (IsFor c) (slice_index_or answer c [])

-- each of them is of one of the six priorities
abbrev pub HavePriorities : List (List Msg) → Type 0
HavePriorities answer = (c : ℕ) → All HasPriority (slice_index_or answer c [])

-- and may be answered: what is of the system level comes from one of so many controllers
abbrev pub AreAnswerable : ℕ → List (List Msg) → Type 0
AreAnswerable controllers answer = (c : ℕ) → All (IsAnswerable controllers) (slice_index_or answer c [])
