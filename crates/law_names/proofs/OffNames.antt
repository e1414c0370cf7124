-- Of all that duties and commands send, only those of the layer service send messages on names.
use Rattle.std.proofs.Common.{◌≡◌, ℕ, ◌==◌, ◌&&◌, Bool, true, false, List, slice_get, Option, Some, ℤ, refl}
use Rattle.std.specs.List.{AllByRecursion}
use Rattle.room_kinds.specs.declared.message.Msg.{Msg}
use Rattle.room_kinds.specs.declared.numbers.Incarnation.{Incarnation}
use Rattle.room_kinds.specs.declared.system.SysKind.{SysKind}
use Rattle.room_kinds.specs.declared.system.SysKind.TheVariants as kinds
use Rattle.room_kinds.specs.declared.command.FrameCommand.{FrameCommand}
use Rattle.room_wiring.specs.declared.tables.Tables.{Tables}
use Rattle.actor_duties.specs.State.{Frame, Links}
use Rattle.actor_duties.specs.Frame.{frame_duty, frame_request}
use Rattle.actor_duties.specs.Links.{links_duty}
use Rattle.actor_duties.specs.Commands.{Content, send, broadcast}
use Rattle.actor_duties.proofs.NameSends.{HoldsOfTold, links_duty_sends, send_sends, broadcast_sends}
use Rattle.actor_duties.proofs.FrameSends.{IsAny, any_receivers, HoldsOfFrame, request_sends, frame_duty_sends}
use Rattle.actor_world.specs.Turns.{all_kinds}

-- whether a kind is one of the layer service's
abbrev pub is_name_kind : Option SysKind → Bool
is_name_kind (Some kinds.Register) = true
is_name_kind (Some kinds.Withdraw) = true
is_name_kind (Some kinds.Bound) = true
is_name_kind (Some kinds.Ended) = true
is_name_kind (Some kinds.NameReply) = true
is_name_kind _ = false

-- whether a message is on names
abbrev pub is_on_names : Msg → Bool
is_on_names m = (m.prio.0 == 0) && is_name_kind (slice_get all_kinds m.signal)

abbrev pub IsOffNames : Msg → Type 0
IsOffNames m = is_on_names m ≡ false

abbrev pub AllOffNames : List Msg → Type 0
AllOffNames ms = AllByRecursion IsOffNames ms

told : (me : ℕ) → HoldsOfTold me IsOffNames
told me signal source target payload = refl

of_frame : (me : ℕ) → HoldsOfFrame me IsAny IsOffNames
of_frame me = record {
  told = told me;
  creates = λ d to source target payload. refl;
  created = λ d to source target payload. refl;
  uncreated = λ d to source target payload. refl;
  destroys = λ d to source target payload. refl;
  destroyed = λ d to source target payload. refl;
  imports = λ d to source target payload. refl;
  imported = λ d to source target payload. refl;
  unimported = λ d to source target payload. refl;
  plug_ended = λ d to source target payload. refl;
  deports = λ d to source target payload. refl;
  deported = λ d to source target payload. refl;
  announces = λ d to source target payload. refl;
  part_made = λ d to source target payload. refl;
  part_ended = λ d to source target payload. refl;
}

module _ (t : Tables) (me : ℕ) where
  -- what a duty of the frame service sends
  pub frame_duty_off : (f : Frame) (m : Msg) (kind : SysKind) → AllOffNames (frame_duty t me f kind m).sent
  frame_duty_off f m kind = (frame_duty_sends t me IsAny (any_receivers t) IsOffNames (of_frame me) m tt f kind).sent

  -- the commands on the life and the import of actors
  pub frame_request_off : (f : Frame) (x : Incarnation) (c : FrameCommand) → AllOffNames (frame_request t me f x c).sent
  frame_request_off f x c = request_sends t me IsAny (any_receivers t) IsOffNames (of_frame me) f x c

  -- registrations and links
  pub links_off : (l : Links) (live : Bool) (k : SysKind) (m : Msg) → AllOffNames (links_duty t me l live k m).sent
  links_off l live k m = links_duty_sends t me IsOffNames (told me) l live k m

  -- what actors send above the system level
  module _ (f : Frame) (l : Links) (x : Incarnation) (p : ℕ) (c : Content) (above : (c.prio.0 == 0) ≡ false) where
    pub send_off : (k : ℤ) → AllOffNames (send t me f l x p k c).messages
    send_off k = send_sends t me IsOffNames c (λ source target. rw above refl) f l x p k

    pub broadcast_off : AllOffNames (broadcast t me f l x p c).messages
    broadcast_off = broadcast_sends t me IsOffNames c (λ source target. rw above refl) f l x p
