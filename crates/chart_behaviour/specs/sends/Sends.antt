-- Where the messages go that turns and starts send.
-- The laws: to controllers that there are, at priorities that there are, go all messages that a turn or a start sends, where the owners of slots are controllers, commands send at the six priorities,
-- and a message of the system level, to which services reply, comes from a controller.
use Rattle.std.specs.Prelude.{◌≡◌, ℕ, ◌<◌, nat_lt, Bool, true, Some, length}
use Rattle.room_kinds.specs.declared.message.Msg.{Msg}
use Rattle.room_kinds.specs.declared.command.Command.{Command}
use Rattle.room_kinds.specs.declared.command.Command.TheVariants as commands
use Rattle.room_wiring.specs.declared.slot.Slot.{Slot}
use Rattle.room_wiring.specs.declared.tables.Tables.{Tables}
use Rattle.room_wiring.specs.Slots.{slot_at}
use Rattle.actor_world.specs.Behaviour.{Behaviour}
use Rattle.actor_world.specs.Body.{Body}
use Rattle.actor_world.specs.Turns.{treat}
use Rattle.actor_world.specs.Start.{first_state}
use Rattle.chart_behaviour.specs.Asked.{AsksOnly}
use Rattle.controller_mail.specs.Within.{AreWithin, IsAnswerable}

-- the owner of each slot is a controller
abbrev pub OwnersAreThere : Tables → Type 0
OwnersAreThere t = (s : ℕ) (x : Slot) → slot_at t s ≡ Some x → x.owner.0 < length t.controllers

-- whether a command sends at one of the six priorities, if it sends
abbrev pub is_ranked : Command → Bool
is_ranked (commands.Send p k signal payload prio) = nat_lt prio.0 6
is_ranked commands.Defer = true
is_ranked commands.Recall = true
is_ranked commands.RecallAll = true
is_ranked (commands.Frame c) = true
is_ranked (commands.Name c) = true

-- the turn of a message
abbrev pub TurnsSendWithin : Type 0 → Type 0
TurnsSendWithin M =
    (model : Behaviour M) (t : Tables) (me : ℕ) (b : Body M) (m : Msg) → AsksOnly is_ranked model → OwnersAreThere t → me < length t.controllers
    → IsAnswerable (length t.controllers) m → AreWithin (length t.controllers) (treat model t me b m).sent

-- the start of a controller
abbrev pub StartsSendWithin : Type 0 → Type 0
StartsSendWithin M =
    (model : Behaviour M) (t : Tables) (me : ℕ) → AsksOnly is_ranked model → OwnersAreThere t → me < length t.controllers
    → AreWithin (length t.controllers) (first_state model t me).outbox
