-- Where messages go, and where those come from that services answer.
-- `WaitsWithin`: what waits in a mail to be posted goes to controllers, and what waits at the system level,
-- to which services reply, comes from controllers.
use Rattle.std.specs.Prelude.{◌≡◌, ℕ, ◌<◌, ◌==◌, ◌||◌, nat_lt, not, Bool, List}
use Rattle.std.specs.List.{AllByRecursion}
use Rattle.room_kinds.specs.declared.message.Msg.{Msg}
use Rattle.controller_mail.specs.MailState.{MailState, pending_of}

-- a message goes to one of so many controllers, at one of the six priorities
abbrev pub IsWithin : ℕ → Msg → Type 0
IsWithin controllers m = (m.to.0 < controllers) × (m.prio.0 < 6)

-- each of these messages does
abbrev pub AreWithin : ℕ → List Msg → Type 0
AreWithin controllers ms = AllByRecursion (IsWithin controllers) ms

-- a message goes to this controller
abbrev pub IsFor : ℕ → Msg → Type 0
IsFor controller m = m.to.0 ≡ controller

-- a message comes from one of so many controllers
abbrev pub IsFrom : ℕ → Msg → Type 0
IsFrom controllers m = m.from.0 < controllers

-- a message of the system level does
abbrev pub IsAnswerable : ℕ → Msg → Type 0
IsAnswerable controllers m = m.prio.0 ≡ 0 → IsFrom controllers m

-- whether it does
abbrev pub is_answerable : ℕ → Msg → Bool
is_answerable controllers m = not (m.prio.0 == 0) || nat_lt m.from.0 controllers

-- what waits in a mail, among so many controllers
pub record WaitsWithin (controllers : ℕ) (k : MailState) : Type 0 where
  pub system : AllByRecursion (IsFrom controllers) (pending_of k.pending 0)
  pub outbox : AreWithin controllers k.outbox
