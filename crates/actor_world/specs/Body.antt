-- A controller's state but its mail, and how the commands of an actor are applied to it.
-- The body is the frame service, links, the name table, and for each slot where an actor lives its
-- machine and the messages that it keeps. `apply_all`: commands are applied in order.
use Rattle.std.specs.Prelude.{ℕ, ℤ, Bool, true, List, [], ◌∷◌, ◌++◌, Option, Some, None}
use Rattle.room_kinds.specs.declared.message.Msg.{Msg}
use Rattle.room_kinds.specs.declared.note.Note.{Note}
use Rattle.room_kinds.specs.declared.command.Command.{Command}
use Rattle.room_kinds.specs.declared.command.Command.TheVariants as commands
use Rattle.room_kinds.specs.declared.numbers.Incarnation.{Incarnation}
use Rattle.room_wiring.specs.declared.tables.Tables.{Tables}
use Rattle.actor_duties.specs.Words.{updated}
use Rattle.actor_duties.specs.State.{Frame, Links, NameTable, Done}
use Rattle.actor_duties.specs.Frame.{frame_request}
use Rattle.actor_duties.specs.Links.{name_request}
use Rattle.actor_duties.specs.Commands.{Content, Sent, send, broadcast, Kept, defer, recall, recall_all}

-- the frame service, the layer service, the name table (used on controller 0 alone), and for each
-- slot where an actor lives its machine and the messages that it keeps for later
pub record Body (M : Type 0) : Type 0 where
  pub frame : Frame
  pub links : Links
  pub table : NameTable
  pub machines : ℕ → Option M
  pub deferred : ℕ → List Msg

-- a body while something is done to it: what is sent so far, what comes back to the pending lists,
-- first the one that will be in front, the notes so far, and whether the message in hand is kept
pub record Doing (M : Type 0) : Type 0 where
  pub body : Body M
  pub sent : List Msg
  pub back : List Msg
  pub notes : List Note
  pub kept : Bool

-- more messages and notes
abbrev pub sending : {M : Type 0} → Doing M → Sent → Doing M
sending d s = record d { sent = d.sent ++ s.messages; notes = d.notes ++ s.notes }

-- another state of the frame service, and more messages
abbrev pub framing : {M : Type 0} → Doing M → Done Frame → Doing M
framing d r = record d { body = record d.body { frame = r.now }; sent = d.sent ++ r.sent }

-- other registrations and links, and more messages
abbrev pub naming : {M : Type 0} → Doing M → Done Links → Doing M
naming d r = record d { body = record d.body { links = r.now }; sent = d.sent ++ r.sent }

-- other messages kept by the actor in a slot; those that come back go before those that came back
-- earlier
abbrev pub keeping : {M : Type 0} → Doing M → ℕ → Bool → Kept → Doing M
keeping d slot kept k =
    record d {
      body = record d.body { deferred = updated d.body.deferred slot k.deferred };
      back = k.back ++ d.back;
      notes = d.notes ++ k.notes;
      kept = kept;
    }

-- the message that a command has at hand, in the turn of a message or at an initial transition
abbrev pub sent_at : {M : Type 0} → Tables → ℕ → Doing M → Incarnation → ℕ → Option ℤ → Content → Sent
sent_at t me d x p (Some k) c = send t me d.body.frame d.body.links x p k c
sent_at t me d x p None c = broadcast t me d.body.frame d.body.links x p c

-- one command of x is applied; m is the message in hand
abbrev pub apply : {M : Type 0} → Tables → ℕ → Incarnation → Option Msg → Doing M → Command → Doing M
apply t me x m d (commands.Send p k signal payload prio) = sending d (sent_at t me d x p k (record { signal = signal; payload = payload; prio = prio }))
apply t me x m d commands.Defer = keeping d x.slot.0 true (defer d.kept m (d.body.deferred x.slot.0))
apply t me x m d commands.Recall = keeping d x.slot.0 d.kept (recall (d.body.deferred x.slot.0))
apply t me x m d commands.RecallAll = keeping d x.slot.0 d.kept (recall_all (d.body.deferred x.slot.0))
apply t me x m d (commands.Frame c) = framing d (frame_request t me d.body.frame x c)
apply t me x m d (commands.Name c) = naming d (name_request t me d.body.links x c)

-- commands are applied in order
abbrev pub apply_all : {M : Type 0} → Tables → ℕ → Incarnation → Option Msg → List Command → Doing M → Doing M
apply_all t me x m [] d = d
apply_all t me x m (c ∷ cs) d = apply_all t me x m cs (apply t me x m d c)
