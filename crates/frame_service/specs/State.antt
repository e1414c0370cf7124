-- What the state of a frame service stands for.
-- The calls of the frame service are equations between what it keeps and the definitions of
-- `actor_duties`, with the messages appended in their order: `start` is `first_frame`, and `duty`,
-- `request` and `peer` are `frame_duty`, `frame_request` and `frame_peer` on the state that
-- `frame_in` reads from its tables; `place` is `shown_place` of it. `IsFrameOf`: a state has a row
-- for each slot of its wiring; each call keeps that.
use Rattle.std.specs.Prelude.{◌≡◌, ◌<◌, length}
use Rattle.room_wiring.specs.declared.tables.Tables.{Tables}
use Rattle.actor_duties.specs.State.{Frame}
use Rattle.service_messages.specs.slot_runs.Runs.{IsDepthFirst, AreRunEnds}
use Rattle.frame_lives.specs.Shown.{shown}
use Rattle.frame_service.specs.frame_imports.frame_peers.Parts.{frame_by}
use Rattle.frame_service.specs.frame_imports.import_places.Lending.{lending}
use Rattle.frame_service.specs.declared.state.FrameState.{FrameState}

-- the state of the definitions
unfoldable pub frame_in : FrameState → Frame
frame_in s = frame_by (shown s.lives) (lending s.imports).places (lending s.imports).plugs

-- the state is one of a controller of this wiring, whose slots are numbered depth first: its tables
-- have a row for each slot
pub record IsFrameOf (t : Tables) (s : FrameState) : Type 0 where
  pub order : IsDepthFirst t
  pub me : s.me.0 < length t.controllers
  pub runs : AreRunEnds t s.runs
  pub lives : (shown s.lives).slots ≡ length t.slots
