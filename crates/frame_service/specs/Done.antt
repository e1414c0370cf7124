-- What came of a duty or of a command.
use Rattle.std.specs.Prelude.{◌≡◌, ℕ, List, [], ◌++◌, Option, None}
use Rattle.room_kinds.specs.declared.message.Msg.{Msg}
use Rattle.room_kinds.specs.declared.numbers.Incarnation.{Incarnation}
use Rattle.room_kinds.specs.declared.numbers.Endpoint.{Endpoint}
use Rattle.room_kinds.specs.declared.system.SysKind.{SysKind}
use Rattle.room_wiring.specs.declared.tables.Tables.{Tables}
use Rattle.actor_duties.specs.State as rows
use Rattle.actor_duties.specs.State.{Frame}
use Rattle.actor_duties.specs.Frame.{FrameDone, frame_duty_of, part_end}
use Rattle.frame_lives.specs.declared.done.DutyDone.{DutyDone}
use Rattle.frame_service.specs.frame_endings.Ends.{left_of}
use Rattle.frame_service.specs.declared.state.FrameState.{FrameState}
use Rattle.frame_service.specs.State.{frame_in, IsFrameOf}

-- nothing is left to the controller
abbrev pub nothing_left : DutyDone
nothing_left = record { made = []; ended = []; last = None }

-- what an end leaves to the controller: who ended, and the message that closes it
abbrev pub ended_left : List Incarnation → Option Msg → DutyDone
ended_left ended last = record { made = []; ended = ended; last = last }

-- the end set of slot o has ended, as in a PartEnd: the state after it, the messages at once, and who
-- ended
pub record IsSetEnded (t : Tables) (old new : FrameState) (o : ℕ) (before out : List Msg) (ended : List Incarnation) : Type 0 where
  pub fits : IsFrameOf t new
  pub me : new.me ≡ old.me
  pub frame : frame_in new ≡ (part_end t old.me.0 (frame_in old) o).frame
  pub sent : out ≡ before ++ (part_end t old.me.0 (frame_in old) o).sent
  pub who : ended ≡ (part_end t old.me.0 (frame_in old) o).ended

-- what came of a duty, by its row: the state after it, the messages at once, and what is left to the
-- controller
pub record IsDone (t : Tables) (old new : FrameState) (r : FrameDone) (before out : List Msg) (d : DutyDone) : Type 0 where
  pub fits : IsFrameOf t new
  pub me : new.me ≡ old.me
  pub frame : frame_in new ≡ r.frame
  pub sent : out ≡ before ++ r.sent
  pub done : d ≡ left_of r

-- what came of a message of a kind, from a source to a target
abbrev pub IsHeard : Tables → FrameState → FrameState → Msg → SysKind → Endpoint → Endpoint → List Msg → List Msg → DutyDone → Type 0
IsHeard t old new m kind x y before out d = IsDone t old new (frame_duty_of t old.me.0 (frame_in old) m kind x y) before out d

-- what came of a command
pub record IsRequested (t : Tables) (old new : FrameState) (r : rows.Done Frame) (before out : List Msg) : Type 0 where
  pub fits : IsFrameOf t new
  pub me : new.me ≡ old.me
  pub frame : frame_in new ≡ r.now
  pub sent : out ≡ before ++ r.sent
