-- The journal's entries leave just this state: the laws of a controller's mail and of the environment,
-- over any kind of body.
-- `Leaves`: behind the entries of the start, the journal is a replay of the controller from its
-- start to the state of this mail and this body. It is so after the start, and each fetch, turn
-- and post keeps it (`mail_leaves`, over any kind of body and any `treat`); the environment's
-- journal stays a replay at each post of its next line (`environment_leaves`).
use Rattle.std.specs.Prelude.{◌≡◌, ℕ, ◌+◌, List, [], ◌∷◌, ◌++◌, replicate, length, slice_get, Some}
use Rattle.room_kinds.specs.declared.message.Msg.{Msg}
use Rattle.journal.specs.declared.entry.Entry.{Entry}
use Rattle.journal.specs.declared.entry.Entry.TheVariants as entry
use Rattle.actor_merge.specs.Parties.{Plant, Line, Environment, Replays, EnvironmentReplays, stamped}
use Rattle.controller_mail.specs.MailState.{MailState, TurnDone, EnvironmentState, state_of, with_body, environment_of}
use Rattle.controller_mail.specs.Steps.{Fetches, Posts, TakesNext, EndsTurn, environment_after, environment_before}

-- behind the entries with which it began, the journal is a replay of controller c of this plant from its
-- start to the state of this mail and body
pub record Leaves {B : Type 0} (plant : Plant B) (c : ℕ) (first : List Entry) (k : MailState) (body : B) : Type 0 where
  pub entries : List Entry
  pub journal : k.journal ≡ first ++ entries
  pub replays : Replays plant c (plant.start c) entries (state_of k body)

-- the mail after a start that sent these messages and had these entries
abbrev pub first_mail : List Msg → List Entry → MailState
first_mail sent entries = record { clock = 0; turns = 0; pending = replicate 6 []; outbox = sent; journal = entries }

-- so it is at the start
abbrev pub StartLeaves : Type 0 → Type 0
StartLeaves B =
    (plant : Plant B) (c : ℕ) (first : List Entry) (sent : List Msg) (body : B)
    → plant.start c ≡ record { clock = 0; turns = 0; pending = λ p. []; outbox = sent; body = body }
    → Leaves plant c first (first_mail sent first) body

-- after a fetch
abbrev pub FetchLeaves : Type 0 → Type 0
FetchLeaves B =
    (plant : Plant B) (c : ℕ) (first : List Entry) (old new : MailState) (m : Msg) (body : B)
    → Leaves plant c first old body → Fetches old new m → Leaves plant c first new body

-- after a post
abbrev pub PostLeaves : Type 0 → Type 0
PostLeaves B =
    (plant : Plant B) (c : ℕ) (first : List Entry) (old new : MailState) (m : Msg) (body : B)
    → Leaves plant c first old body → Posts c old new m → Leaves plant c first new body

-- and after a turn: where the outbox is empty, a message is taken out, and what is done at the end is what
-- the plant makes of it
abbrev pub TurnLeaves : Type 0 → Type 0
TurnLeaves B =
    (plant : Plant B) (c : ℕ) (first : List Entry) (old taken new : MailState) (m : Msg) (done : TurnDone) (before after : B)
    → Leaves plant c first old before → old.outbox ≡ [] → TakesNext old taken m → EndsTurn taken new m.from m.stamp done
    → plant.treat c before m ≡ with_body done after
    → Leaves plant c first new after

-- after a post of its next line the environment's journal is a replay from where it was before
abbrev pub EnvironmentLeaves : Type 0 → Type 0
EnvironmentLeaves B =
    (plant : Plant B) (start : Environment) (entries : List Entry) (old : EnvironmentState) (line : Line)
    → EnvironmentReplays plant start entries (environment_of old)
    → slice_get plant.lines (length old.journal) ≡ Some line
    → let m = stamped plant.controllers (old.clock + 1) line.message in
    EnvironmentReplays plant start (entries ++ entry.Post m.stamp m ∷ []) (environment_of (environment_after old m))

-- what was posted last can be taken back
abbrev pub PostIsTakenBack : Type 0
PostIsTakenBack = (k : EnvironmentState) (m : Msg) → environment_before (environment_after k m) ≡ k
