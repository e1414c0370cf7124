-- What a look at a box may give.
use Rattle.std.specs.Prelude.{ℕ, ◌+◌, ◌<◌, ◌≡◌, ◌⊎◌, List, [], ◌∷◌, ◌++◌, zero, suc, length, All, Some, None}
use Rattle.room_kinds.specs.declared.message.Msg.{Msg}
use Rattle.mail_core.specs.EndLog.{EndLog, taking}

-- a message to the end's party from a lane of this box
pub record IsOfBox (in_box : ℕ → ℕ → ℕ → ℕ → Type 0) (log : EndLog) (b : ℕ) (m : Msg) : Type 0 where
  pub to : m.to.0 ≡ log.party
  pub from : m.from.0 < log.parties
  pub prio : m.prio.0 < 6
  pub lane : in_box log.parties b m.from.0 m.prio.0

-- a party of so many may post at this priority: at the system level, priority 0, only controllers post, and the
-- environment is the last party
abbrev pub MayPostAt : ℕ → ℕ → ℕ → Type 0
MayPostAt parties party prio = prio ≡ 0 → party + 1 < parties

-- the sender of a message may post at its priority
abbrev pub KeepsToLevel : ℕ → Msg → Type 0
KeepsToLevel parties m = MayPostAt parties m.from.0 m.prio.0

-- the end has taken all that it posted into this box itself
pub record OwnIsTaken (in_box : ℕ → ℕ → ℕ → ℕ → Type 0) (log : EndLog) (b : ℕ) : Type 0 where
  pub own : (p : ℕ) → in_box log.parties b log.party p → log.posted log.party p ≡ log.taken log.party p

-- after looks at one box that gave these messages, one each
abbrev pub taking_all : EndLog → ℕ → List Msg → EndLog
taking_all log b [] = log
taking_all log b (m ∷ ms) = taking_all (taking log b (Some m)) b ms

-- a poll of one box: 64 messages by 64 looks, or fewer and one look more that found none
pub record PollsBox (in_box : ℕ → ℕ → ℕ → ℕ → Type 0) (b : ℕ) (log log' : EndLog) (gave : List Msg) : Type 0 where
  pub each : All (IsOfBox in_box log b) gave
  pub levels : All (KeepsToLevel log.parties) gave
  pub looks : ((length gave ≡ 64) × (log' ≡ taking_all log b gave)) ⊎ ((length gave < 64) × (log' ≡ taking (taking_all log b gave) b None) × OwnIsTaken in_box log' b)

-- a poll of the boxes below k, one after another
abbrev pub PollsBoxes : (ℕ → ℕ → ℕ → ℕ → Type 0) → ℕ → EndLog → EndLog → List Msg → Type 0
PollsBoxes in_box zero log log' gave = (log' ≡ log) × (gave ≡ [])
PollsBoxes in_box (suc k) log log' gave = (mid : EndLog) × (ms : List Msg) × (ns : List Msg) × PollsBoxes in_box k log mid ms × PollsBox in_box k mid log' ns × (gave ≡ ms ++ ns)
