-- What actors ask of the services, as a step of them: commands on the life or the import of actors, and
-- commands on names.
use Rattle.std.specs.Prelude.{◌≡◌, ℕ, List, ◌++◌}
use Rattle.room_kinds.specs.declared.message.Msg.{Msg}
use Rattle.room_kinds.specs.declared.command.FrameCommand.{FrameCommand}
use Rattle.room_kinds.specs.declared.command.NameCommand.{NameCommand}
use Rattle.room_kinds.specs.declared.numbers.Incarnation.{Incarnation}
use Rattle.room_wiring.specs.declared.tables.Tables.{Tables}
use Rattle.actor_duties.specs.State.{Frame, Links}
use Rattle.actor_duties.specs.Frame.{frame_request}
use Rattle.actor_duties.specs.Links.{name_request}

-- the frame service did what x asked, its messages follow those that were sent before, and the
-- links stay
pub record FrameAsked (t : Tables) (me : ℕ) (x : Incarnation) (c : FrameCommand) (f : Frame) (l : Links) (f' : Frame) (l' : Links) (before out : List Msg) : Type 0 where
  pub frame : f' ≡ (frame_request t me f x c).now
  pub links : l' ≡ l
  pub sent : out ≡ before ++ (frame_request t me f x c).sent

-- the registrations and links are those after what x asked, its messages follow those that were sent
-- before, and the frame service stays
pub record NameAsked (t : Tables) (me : ℕ) (x : Incarnation) (c : NameCommand) (f : Frame) (l : Links) (f' : Frame) (l' : Links) (before out : List Msg) : Type 0 where
  pub frame : f' ≡ f
  pub links : l' ≡ (name_request t me l x c).now
  pub sent : out ≡ before ++ (name_request t me l x c).sent
