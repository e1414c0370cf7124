-- Messages on their way: lanes, and what the entries of a journal say of them.
-- A party is a controller or the environment, which has the number after the last controller. A
-- lane is a sender, a receiver and a priority; its content is a list of messages, oldest first.
use Rattle.std.specs.Prelude.{ℕ, Bool, ◌==◌, ◌&&◌, List, [], ◌∷◌, ◌++◌, if◌then◌else◌}
use Rattle.room_kinds.specs.declared.message.Msg.{Msg}
use Rattle.journal.specs.declared.entry.Entry.{Entry}
use Rattle.journal.specs.declared.entry.Entry.TheVariants as entry

-- the way of messages from a party to a controller at a priority; it is first in, first out
pub record Lane : Type 0 where
  pub sender : ℕ
  pub receiver : ℕ
  pub priority : ℕ

-- the lane with these ends and this priority
abbrev pub lane : ℕ → ℕ → ℕ → Lane
lane sender receiver priority = record { sender = sender; receiver = receiver; priority = priority }

-- whether two lanes are one
unfoldable pub is_lane : Lane → Lane → Bool
is_lane a b = (a.sender == b.sender) && (a.receiver == b.receiver) && (a.priority == b.priority)

-- what may happen to a party; an actor's start is over when a run begins, so it never happens in one
pub data Event : Type 0 where
  Fetch : (sender priority : ℕ) → Event
  Turn : Event
  Post : Event
  Start : Event

-- the time of an entry by its party's logical clock (Lamport 1978); a start stands at 0
abbrev pub stamp_of : Entry → ℕ
stamp_of (entry.Start who state notes) = 0
stamp_of (entry.Fetch stamp m) = stamp.0
stamp_of (entry.Turn stamp from sent did notes) = stamp.0
stamp_of (entry.Post stamp m) = stamp.0

-- the event that an entry names
abbrev pub event_of : Entry → Event
event_of (entry.Start who state notes) = Start
event_of (entry.Fetch stamp m) = Fetch m.from.0 m.prio.0
event_of (entry.Turn stamp from sent did notes) = Turn
event_of (entry.Post stamp m) = Post

-- the message, if any, that an entry of this party takes from a lane
abbrev pub takes : Lane → ℕ → Entry → List Msg
takes l party (entry.Start who state notes) = []
takes l party (entry.Fetch stamp m) = if is_lane l (lane m.from.0 party m.prio.0) then m ∷ [] else []
takes l party (entry.Turn stamp from sent did notes) = []
takes l party (entry.Post stamp m) = []

-- the message, if any, that an entry of this party gives to a lane
abbrev pub gives : Lane → ℕ → Entry → List Msg
gives l party (entry.Start who state notes) = []
gives l party (entry.Fetch stamp m) = []
gives l party (entry.Turn stamp from sent did notes) = []
gives l party (entry.Post stamp m) = if is_lane l (lane party m.to.0 m.prio.0) then m ∷ [] else []

-- what a party's journal takes from a lane, oldest first
abbrev pub taken : Lane → ℕ → List Entry → List Msg
taken l party [] = []
taken l party (e ∷ es) = takes l party e ++ taken l party es

-- what a party's journal gives to a lane, oldest first
abbrev pub given : Lane → ℕ → List Entry → List Msg
given l party [] = []
given l party (e ∷ es) = gives l party e ++ given l party es
