-- A controller's queues, as contracts see them: its mail without the journal.
-- Each call gives the entry that it makes. `alone` are the queues as a state of the world's definitions, so
-- a call is one equation: the definition's event gives the queues after it, and the entry.
use Rattle.std.specs.Prelude.{◌≡◌, ℕ, ◌+◌, List}
use Rattle.room_kinds.specs.declared.message.Msg.{Msg}
use Rattle.room_kinds.specs.declared.numbers.ControllerId.{ControllerId}
use Rattle.room_kinds.specs.declared.numbers.Stamp.{Stamp}
use Rattle.journal.specs.declared.entry.Entry.{Entry}
use Rattle.journal.specs.declared.entry.Entry.TheVariants as entry
use Rattle.actor_merge.specs.Parties.{State, put_back}
use Rattle.controller_mail.specs.MailState.{TurnDone, pending_of}
use Rattle.controller_mail.specs.Steps.{TakesFront}

-- a controller's clock, its number of turns, its pending lists from priority 0 on, and its outbox
pub record Queues : Type 0 where
  pub clock : ℕ
  pub turns : ℕ
  pub pending : List (List Msg)
  pub outbox : List Msg

-- the controller's state with these queues and nothing besides
abbrev pub alone : Queues → State (Unit {0})
alone q = record { clock = q.clock; turns = q.turns; pending = pending_of q.pending; outbox = q.outbox; body = tt }

-- the message whose turn it is was taken out, and nothing else changes
pub record TakesOut (old new : Queues) (m : Msg) : Type 0 where
  pub front : TakesFront old.pending new.pending m
  pub others : new ≡ record old { pending = new.pending }

-- the end of the turn of a message that was taken out before, which this party stamped so: one turn and one
-- tick more, the deferred messages back in front, and what was sent in the outbox
unfoldable pub end_turn : State (Unit {0}) → ControllerId → Stamp → TurnDone → State (Unit {0}) × Entry
end_turn s from sent done = (
  record s { clock = s.clock + 1; turns = s.turns + 1; pending = put_back done.back s.pending; outbox = done.sent },
  entry.Turn (record { 0 = s.clock + 1 }) from sent done.did done.notes,
)
