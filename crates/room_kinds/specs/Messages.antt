-- When two messages are one.
use Rattle.std.specs.Prelude.{◌≡◌}
use Rattle.room_kinds.specs.declared.message.Msg.{Msg}

-- from whom, to whom, how urgent, and when
pub record SameSending (a b : Msg) : Type 0 where
  pub from : a.from ≡ b.from
  pub to : a.to ≡ b.to
  pub prio : a.prio ≡ b.prio
  pub stamp : a.stamp ≡ b.stamp

-- from which place, to which one, and what
pub record SameContent (a b : Msg) : Type 0 where
  pub source : a.source ≡ b.source
  pub target : a.target ≡ b.target
  pub signal : a.signal ≡ b.signal
  pub payload : a.payload ≡ b.payload
