-- What each call does to a controller's mail and to the environment: the events of the world's
-- definitions, each with its entry.
-- `Fetches` and `Posts` are the functions `fetch` and `post` of the world's definitions, with the
-- entry at the end of the journal. A turn is two calls: `TakesNext` takes out the message whose
-- turn it is, and `EndsTurn` counts the turn, puts the deferred messages back in front and leaves
-- what was sent in the outbox.
use Rattle.std.specs.Prelude.{◌≡◌, ℕ, ◌+◌, ◌-◌, take, length, List, [], ◌∷◌, ◌++◌, Some}
use Rattle.room_kinds.specs.declared.message.Msg.{Msg}
use Rattle.room_kinds.specs.declared.numbers.ControllerId.{ControllerId}
use Rattle.room_kinds.specs.declared.numbers.Stamp.{Stamp}
use Rattle.journal.specs.declared.entry.Entry.TheVariants as entry
use Rattle.actor_merge.specs.Parties.{Taken, put, put_back, next_of, fetch, post}
use Rattle.controller_mail.specs.MailState.{MailState, TurnDone, EnvironmentState, pending_of, mail_alone, HasPriority}

-- a fetch of this message, and its entry at the end of the journal
pub record Fetches (old new : MailState) (m : Msg) : Type 0 where
  pub state : mail_alone new ≡ (fetch (mail_alone old) m).0
  pub journal : new.journal ≡ old.journal ++ (fetch (mail_alone old) m).1 ∷ []

-- a post by controller c of the front of the outbox, as this message, and its entry at the end of the
-- journal
pub record Posts (c : ℕ) (old new : MailState) (m : Msg) : Type 0 where
  pub state : post c (mail_alone old) ≡ Some (mail_alone new, entry.Post m.stamp m)
  pub journal : new.journal ≡ old.journal ++ entry.Post m.stamp m ∷ []

-- of these pending lists the message whose turn it is was taken out
pub record TakesFront (old new : List (List Msg)) (m : Msg) : Type 0 where
  pub taken : Taken
  pub next : next_of (pending_of old) ≡ Some taken
  pub message : taken.message ≡ m
  pub rest : pending_of new ≡ put (pending_of old) taken.priority taken.rest
  pub priority : m.prio.0 ≡ taken.priority
  pub within : HasPriority m

-- the same of a mail, where nothing else changes
pub record TakesNext (old new : MailState) (m : Msg) : Type 0 where
  pub front : TakesFront old.pending new.pending m
  pub others : new ≡ record old { pending = new.pending }

-- the end of a turn of a message that was taken out before: one turn and one tick more, the deferred
-- messages back in front, the messages that were sent in the outbox, and the entry, which names the
-- message by its sender and its stamp, at the end of the journal
pub record EndsTurn (old new : MailState) (from : ControllerId) (sent : Stamp) (done : TurnDone) : Type 0 where
  pub clock : new.clock ≡ old.clock + 1
  pub turns : new.turns ≡ old.turns + 1
  pub pending : pending_of new.pending ≡ put_back done.back (pending_of old.pending)
  pub outbox : new.outbox ≡ done.sent
  pub journal : new.journal ≡ old.journal ++ entry.Turn (record { 0 = old.clock + 1 }) from sent done.did done.notes ∷ []

-- the environment after a post of a message that is given to it, which it posts as this one
abbrev pub environment_after : EnvironmentState → Msg → EnvironmentState
environment_after k m = record { clock = k.clock + 1; journal = k.journal ++ entry.Post m.stamp m ∷ [] }

-- the environment before its last post
abbrev pub environment_before : EnvironmentState → EnvironmentState
environment_before k = record { clock = k.clock - 1; journal = take (length k.journal - 1) k.journal }
