-- Of all that duties and commands send, only what makes or ends actors sends an Announce.
use Rattle.std.proofs.Common.{◌≡◌, ℕ, ◌==◌, Bool, false, if◌then◌else◌, List, flat_map, slice_get, Option, Some, None, ℤ, refl}
use Rattle.std.specs.List.{AllByRecursion}
use Rattle.room_kinds.specs.declared.message.Msg.{Msg}
use Rattle.room_kinds.specs.declared.numbers.Incarnation.{Incarnation}
use Rattle.room_kinds.specs.declared.numbers.Endpoint.{Endpoint}
use Rattle.room_kinds.specs.declared.system.SysKind.{SysKind}
use Rattle.room_kinds.specs.declared.system.SysKind.TheVariants as kinds
use Rattle.room_kinds.specs.declared.command.FrameCommand.{FrameCommand}
use Rattle.room_kinds.specs.declared.command.NameCommand.{NameCommand}
use Rattle.room_wiring.specs.declared.tables.Tables.{Tables}
use Rattle.actor_duties.specs.Words.{whose}
use Rattle.actor_duties.specs.State.{Lives, Frame, Links, ImportPlace, NameTable}
use Rattle.actor_duties.specs.Lives.{create_done, create_refused, destroy_done, parts_told}
use Rattle.actor_duties.specs.Imports.{import, import_done, import_refused, import_ended, deport, deport_done, ended_plugs, given_back}
use Rattle.actor_duties.specs.Frame.{part_ends, frame_request}
use Rattle.actor_duties.specs.Names.{table_duty}
use Rattle.actor_duties.specs.Links.{links_duty, name_request, end_of}
use Rattle.actor_duties.specs.Commands.{Content, send, broadcast}
use Rattle.actor_duties.proofs.NameSends.{HoldsOfTold, HoldsOfNames, name_request_sends, end_of_sends, links_duty_sends, table_duty_sends, send_sends, broadcast_sends}
use Rattle.actor_duties.proofs.FrameSends.{IsAny, any_receivers, create_done_sends, create_refused_sends, destroy_done_sends, import_done_sends, import_refused_sends, import_ended_sends, deport_done_sends, import_sends, deport_sends, ended_plugs_send, given_back_sends, part_makes_send, part_ends_send, frame_request_sends}
use Rattle.actor_world.specs.Turns.{all_kinds}

-- what a message of this kind announces
abbrev pub announced_by : Option SysKind → Option Endpoint → Option Incarnation
announced_by (Some kinds.Announce) (Some source) = Some (whose source)
announced_by _ _ = None

-- the incarnation that a message announces, if it does
abbrev pub announced : Msg → Option Incarnation
announced m = if m.prio.0 == 0 then announced_by (slice_get all_kinds m.signal) m.source else None

-- a message that announces nothing
abbrev pub IsSilent : Msg → Type 0
IsSilent m = announced m ≡ None

-- messages that announce nothing
abbrev pub AllSilent : List Msg → Type 0
AllSilent ms = AllByRecursion IsSilent ms

told : (me : ℕ) → HoldsOfTold me IsSilent
told me signal source target payload = refl

on_names : (t : Tables) (me : ℕ) → HoldsOfNames t me IsSilent
on_names t me = record {
  told = told me;
  register = λ e name. refl;
  withdraw = λ e. refl;
  answer = λ e code h. refl;
  bound = λ source target. refl;
  ended = λ source target. refl;
}

module _ (t : Tables) (me : ℕ) where
  pub silent_create_done : (o x : Endpoint) → AllSilent (create_done t me o x)
  silent_create_done o x = create_done_sends t me IsSilent (told me) o x

  pub silent_create_refused : (o x : Endpoint) (code : ℤ) → AllSilent (create_refused t me o x code)
  silent_create_refused o x code = create_refused_sends t me IsSilent (told me) o x code

  pub silent_destroy_done : (o x : Endpoint) (code : ℕ) → AllSilent (destroy_done t me o x code)
  silent_destroy_done o x code = destroy_done_sends t me IsSilent (told me) o x code

  pub silent_import : (l : Lives) (plugs : ℕ → List Incarnation) (m : Msg) (i h : Endpoint) → AllSilent (import t me l plugs m i h).sent
  silent_import l plugs m i h =
      import_sends t me IsAny (any_receivers t) IsSilent (λ d to source target payload. refl) (λ d to source target payload. refl) m tt l plugs i h

  pub silent_deport : (l : Lives) (plugs : ℕ → List Incarnation) (m : Msg) (i h : Endpoint) → AllSilent (deport me l plugs m i h).sent
  silent_deport l plugs m i h = deport_sends t me IsAny (any_receivers t) IsSilent (λ d to source target payload. refl) m tt l plugs i h

  pub silent_import_done : (l : Lives) (places : ℕ → ImportPlace) (h i : Endpoint) → AllSilent (import_done t me l places h i).sent
  silent_import_done l places h i = import_done_sends t me IsSilent (told me) l places h i

  pub silent_import_refused : (l : Lives) (places : ℕ → ImportPlace) (h i : Endpoint) (code : ℤ) → AllSilent (import_refused t me l places h i code).sent
  silent_import_refused l places h i code = import_refused_sends t me IsSilent (told me) l places h i code

  pub silent_import_ended : (l : Lives) (places : ℕ → ImportPlace) (h i : Endpoint) → AllSilent (import_ended t me l places h i).sent
  silent_import_ended l places h i = import_ended_sends t me IsSilent (told me) l places h i

  pub silent_deport_done : (l : Lives) (places : ℕ → ImportPlace) (h i : Endpoint) → AllSilent (deport_done t me l places h i).sent
  silent_deport_done l places h i = deport_done_sends t me IsSilent (told me) l places h i

  pub silent_ended_plugs : (x : Incarnation) (plugs : List Incarnation) → AllSilent (ended_plugs t me x plugs)
  silent_ended_plugs x plugs = ended_plugs_send t me IsAny (any_receivers t) IsSilent (λ d to source target payload. refl) x plugs

  pub silent_part_makes : (x : Incarnation) → AllSilent (parts_told t me kinds.PartMake x)
  silent_part_makes x = part_makes_send t me IsAny (any_receivers t) IsSilent (λ d to source target payload. refl) x

  pub silent_part_ends : (f : Frame) (ss : List ℕ) → AllSilent (flat_map (part_ends t me f) ss)
  silent_part_ends f ss = part_ends_send t me IsAny (any_receivers t) IsSilent (λ d to source target payload. refl) f ss

  pub silent_given_back : (x : Incarnation) (place : ImportPlace) → AllSilent (given_back t me x place)
  silent_given_back x place = given_back_sends t me IsAny (any_receivers t) IsSilent (λ d to source target payload. refl) x place

  pub silent_request : (f : Frame) (x : Incarnation) (c : FrameCommand) → AllSilent (frame_request t me f x c).sent
  silent_request f x c =
      frame_request_sends t me IsAny (any_receivers t) IsSilent (told me) (λ d to source target payload. refl) (λ d to source target payload. refl)
      (λ d to source target payload. refl) (λ d to source target payload. refl) f x c

  pub silent_name_request : (l : Links) (x : Incarnation) (c : NameCommand) → AllSilent (name_request t me l x c).sent
  silent_name_request l x c = name_request_sends t me IsSilent (on_names t me) l x c

  pub silent_end_of : (l : Links) (x : Incarnation) → AllSilent (end_of t me l x).sent
  silent_end_of l x = end_of_sends t me IsSilent (on_names t me) l x

  pub silent_links : (l : Links) (live : Bool) (k : SysKind) (m : Msg) → AllSilent (links_duty t me l live k m).sent
  silent_links l live k m = links_duty_sends t me IsSilent (told me) l live k m

  pub silent_table : (table : NameTable) (k : SysKind) (m : Msg) → AllSilent (table_duty t me table k m).sent
  silent_table table k m = table_duty_sends t me IsSilent (on_names t me) table k m

  -- what actors send above the system level announces nothing
  pub silent_send : (f : Frame) (l : Links) (x : Incarnation) (p : ℕ) (k : ℤ) (c : Content) → (c.prio.0 == 0) ≡ false → AllSilent (send t me f l x p k c).messages
  silent_send f l x p k c h = send_sends t me IsSilent c (λ source target. rw h refl) f l x p k

  pub silent_broadcast : (f : Frame) (l : Links) (x : Incarnation) (p : ℕ) (c : Content) → (c.prio.0 == 0) ≡ false → AllSilent (broadcast t me f l x p c).messages
  silent_broadcast f l x p c h = broadcast_sends t me IsSilent c (λ source target. rw h refl) f l x p
