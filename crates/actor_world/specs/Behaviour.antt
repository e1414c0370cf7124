-- What the actors of a model do, as the world sees it: a machine for each actor that lives, over any
-- kind of machine (ROOM: an actor's behaviour handles one message at a time, to completion).
-- It is left open what it says: the initial transition of an actor, how a machine handles a
-- message, and the number of its state.
use Rattle.std.specs.Prelude.{ℕ, List}
use Rattle.room_kinds.specs.declared.message.Msg.{Msg}
use Rattle.room_kinds.specs.declared.note.Note.{Note}
use Rattle.room_kinds.specs.declared.command.Command.{Command}
use Rattle.room_kinds.specs.declared.numbers.Incarnation.{Incarnation}

-- what a message came to: a transition was taken, the message is kept for later, or no transition was
-- enabled
pub data Handling : Type 0 where
  Handled Deferred Unhandled : Handling

-- a machine after its initial transition, with its notes and commands in order
pub record Begun (M : Type 0) : Type 0 where
  pub machine : M
  pub notes : List Note
  pub commands : List Command

-- a machine after a message, with what the message came to, and its notes and commands in order
pub record Outcome (M : Type 0) : Type 0 where
  pub machine : M
  pub result : Handling
  pub notes : List Note
  pub commands : List Command

-- the behaviour of all actors: the initial transition of an actor, how it handles a message, and the
-- number of a machine's state, 65,535 where its class has no chart
pub record Behaviour (M : Type 0) : Type 0 where
  pub begin : Incarnation → Begun M
  pub handle : Incarnation → M → Msg → Outcome M
  pub state : M → ℕ
