-- What an actor does in a turn, as the world's definitions see it.
use Rattle.std.specs.Prelude.{◌≡◌, ℕ, ℤ, Bool, false, List, ◌++◌, Option, Some, None}
use Rattle.room_kinds.specs.declared.message.Msg.{Msg}
use Rattle.room_kinds.specs.declared.command.Command.{Command}
use Rattle.room_kinds.specs.declared.numbers.Incarnation.{Incarnation}
use Rattle.room_wiring.specs.declared.tables.Tables.{Tables}
use Rattle.actor_duties.specs.Words.{updated}
use Rattle.actor_duties.specs.State.{Frame, Links}
use Rattle.actor_duties.specs.Commands.{Content, Sent, send, broadcast, Kept}
use Rattle.actor_world.specs.Body.{Body, Doing as WorldDoing, apply, apply_all}
use Rattle.chart_behaviour.specs.ModelCharts.{Actor}
use Rattle.controller_actors.specs.declared.actor_commands.output.Output.{Output}

-- what an actor does in the turn of a message or at its start, so far: the messages that it keeps for later,
-- what is put out, and whether the message in hand is kept
pub record Doing : Type 0 where
  pub deferred : List Msg
  pub output : Output
  pub kept : Bool

-- a body with this state of the frame service and these links, while this is done by the actor in a slot
abbrev pub doing_on : Frame → Links → Body Actor → ℕ → Doing → WorldDoing Actor
doing_on f l b slot d = record {
  body = record b { frame = f; links = l; deferred = updated b.deferred slot d.deferred };
  sent = d.output.messages;
  back = d.output.back;
  notes = d.output.notes;
  kept = d.kept;
}

-- what is sent at a place of a port; without a place, at all of them
abbrev pub sent_at : Tables → ℕ → Frame → Links → Incarnation → ℕ → Option ℤ → Content → Sent
sent_at t me f l x p (Some k) c = send t me f l x p k c
sent_at t me f l x p None c = broadcast t me f l x p c

-- a step on the messages that are kept for later: those that are kept then, what comes back before what
-- came back earlier, more notes, and whether the message in hand is kept then
pub record Keeps (k : Kept) (held : Bool) (old new : Doing) : Type 0 where
  pub deferred : new.deferred ≡ k.deferred
  pub messages : new.output.messages ≡ old.output.messages
  pub notes : new.output.notes ≡ old.output.notes ++ k.notes
  pub back : new.output.back ≡ k.back ++ old.output.back
  pub kept : new.kept ≡ held

-- one command is applied, whatever else the body has: from this state of the services to that
pub record Applies (t : Tables) (me : ℕ) (f : Frame) (l : Links) (f' : Frame) (l' : Links) (x : Incarnation) (m : Option Msg) (c : Command) (old new : Doing) : Type 0 where
  pub on : (b : Body Actor) → apply t me x m (doing_on f l b x.slot.0 old) c ≡ doing_on f' l' b x.slot.0 new

-- what is in hand is this message, or none at a start, unless it is kept already
abbrev pub IsInHand : Option Msg → Bool → Option Msg → Type 0
IsInHand m kept hand = kept ≡ false → hand ≡ m

-- one command is applied with what is in hand, and leaves that in hand
pub record AppliesNow (t : Tables) (me : ℕ) (f : Frame) (l : Links) (f' : Frame) (l' : Links) (x : Incarnation) (c : Command) (hand : Option Msg) (old : Doing) (hand' : Option Msg) (new : Doing) : Type 0 where
  pub on : (m : Option Msg) → IsInHand m old.kept hand → Applies t me f l f' l' x m c old new
  pub left : (m : Option Msg) → IsInHand m old.kept hand → IsInHand m new.kept hand'

-- commands are applied in order, whatever else the body has; each sees what those before it changed
pub record AppliesAll (t : Tables) (me : ℕ) (f : Frame) (l : Links) (f' : Frame) (l' : Links) (x : Incarnation) (m : Option Msg) (cs : List Command) (old new : Doing) : Type 0 where
  pub on : (b : Body Actor) → apply_all t me x m cs (doing_on f l b x.slot.0 old) ≡ doing_on f' l' b x.slot.0 new

-- the same, by what an actor kept for later and what was put out, before and after: a message in hand was not
-- kept at first
pub record HasApplied (t : Tables) (me : ℕ) (f : Frame) (l : Links) (f' : Frame) (l' : Links) (x : Incarnation) (m : Option Msg) (cs : List Command) (old : List Msg) (first : Output) (new : List Msg) (last : Output) : Type 0 where
  pub kept : Bool
  pub all : AppliesAll t me f l f' l' x m cs (record { deferred = old; output = first; kept = false }) (record { deferred = new; output = last; kept = kept })
