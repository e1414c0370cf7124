-- What goes in a lane: messages, whose ends and priority the lane itself says.
use Rattle.std.specs.Prelude.{ℕ}
use Rattle.room_kinds.specs.declared.message.Msg.{Msg}

-- a message that comes out of this lane
abbrev pub addressed : ℕ → ℕ → ℕ → Msg → Msg
addressed s r p m = record m { from = record { 0 = s }; to = record { 0 = r }; prio = record { 0 = p } }
