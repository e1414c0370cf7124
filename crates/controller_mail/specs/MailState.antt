-- What contracts see of a controller's mail and of the environment, and which states these are in the
-- world's definitions.
use Rattle.std.specs.Prelude.{◌≡◌, ℕ, ◌<◌, ◌≤◌, ◌==◌, not, Bool, List, [], ◌∷◌, ◌++◌, length, slice_index_or, All}
use Rattle.room_kinds.specs.declared.message.Msg.{Msg}
use Rattle.room_kinds.specs.declared.note.Note.{Note}
use Rattle.journal.specs.declared.entry.Did.{Did}
use Rattle.journal.specs.declared.entry.Entry.{Entry}
use Rattle.actor_merge.specs.Parties.{State, Environment, Treated}

-- a controller's clock, its number of turns, its pending lists from priority 0 on, its outbox and its
-- journal, oldest first
pub record MailState : Type 0 where
  pub clock : ℕ
  pub turns : ℕ
  pub pending : List (List Msg)
  pub outbox : List Msg
  pub journal : List Entry

-- the pending list of a priority; no message waits at a priority that isn't there
abbrev pub pending_of : List (List Msg) → ℕ → List Msg
pending_of lists priority = slice_index_or lists priority []

-- the messages of some lists, one list after another
abbrev pub messages_in : List (List Msg) → List Msg
messages_in [] = []
messages_in (messages ∷ lists) = messages ++ messages_in lists

-- the controller's state with this mail, and with this besides
abbrev pub state_of : {B : Type 0} → MailState → B → State B
state_of k body = record { clock = k.clock; turns = k.turns; pending = pending_of k.pending; outbox = k.outbox; body = body }

-- the same with nothing besides
abbrev pub mail_alone : MailState → State (Unit {0})
mail_alone k = state_of k tt

-- a message of one of the six priorities
abbrev pub HasPriority : Msg → Type 0
HasPriority m = m.prio.0 < 6

-- a message of one of the priorities of actors, 1 to 5
abbrev pub IsForActors : Msg → Type 0
IsForActors m = (1 ≤ m.prio.0) × HasPriority m

-- six lists, each with messages of its own priority alone
pub record IsRanked (lists : List (List Msg)) : Type 0 where
  pub six : length lists ≡ 6
  pub own : (priority : ℕ) → All (λ (m : Msg). m.prio.0 ≡ priority) (pending_of lists priority)

-- whether a list has messages
abbrev pub has_messages : List Msg → Bool
has_messages messages = not (length messages == 0)

-- what a turn makes of its message, but the body: the messages for the outbox, the deferred messages that
-- come back, what the journal says of it, and its notes
pub record TurnDone : Type 0 where
  pub sent : List Msg
  pub back : List Msg
  pub did : Did
  pub notes : List Note

-- the same with the body that it leaves
abbrev pub with_body : {B : Type 0} → TurnDone → B → Treated B
with_body done body = record { body = body; sent = done.sent; back = done.back; did = done.did; notes = done.notes }

-- the environment's clock, and its journal, oldest first
pub record EnvironmentState : Type 0 where
  pub clock : ℕ
  pub journal : List Entry

-- the environment has posted a line for each entry
abbrev pub environment_of : EnvironmentState → Environment
environment_of k = record { clock = k.clock; posted = length k.journal }
