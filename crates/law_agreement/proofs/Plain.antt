-- Of all that duties and commands send, only what makes or ends actors tells of it: by Announce, PartMake
-- and PartEnd.
use Rattle.std.proofs.Common.{◌≡◌, ℕ, ◌==◌, Bool, false, List, ◌++◌, None, ℤ, refl}
use Rattle.std.specs.List.{AllByRecursion}
use Rattle.room_kinds.specs.declared.message.Msg.{Msg}
use Rattle.room_kinds.specs.declared.numbers.Incarnation.{Incarnation}
use Rattle.room_kinds.specs.declared.numbers.Endpoint.{Endpoint}
use Rattle.room_kinds.specs.declared.system.SysKind.{SysKind}
use Rattle.room_kinds.specs.declared.command.FrameCommand.{FrameCommand}
use Rattle.room_kinds.specs.declared.command.NameCommand.{NameCommand}
use Rattle.room_wiring.specs.declared.tables.Tables.{Tables}
use Rattle.actor_duties.specs.State.{Lives, Frame, Links, ImportPlace, NameTable}
use Rattle.actor_duties.specs.Lives.{create_done, create_refused, destroy_done}
use Rattle.actor_duties.specs.Imports.{import, import_done, import_refused, import_ended, deport, deport_done, ended_plugs, given_back}
use Rattle.actor_duties.specs.Frame.{frame_request}
use Rattle.actor_duties.specs.Names.{table_duty}
use Rattle.actor_duties.specs.Links.{links_duty, name_request, end_of}
use Rattle.actor_duties.specs.Commands.{Content, send, broadcast}
use Rattle.actor_duties.proofs.NameSends.{HoldsOfTold, HoldsOfNames, name_request_sends, end_of_sends, links_duty_sends, table_duty_sends, send_sends, broadcast_sends}
use Rattle.actor_duties.proofs.FrameSends.{IsAny, any_receivers, create_done_sends, create_refused_sends, destroy_done_sends, import_done_sends, import_refused_sends, import_ended_sends, deport_done_sends, import_sends, deport_sends, ended_plugs_send, given_back_sends, frame_request_sends}
use Rattle.law_agreement.specs.Senders.{about}
use Rattle.law_agreement.proofs.Lists.{all_append}

-- a message that tells of no life
abbrev pub IsPlain : Msg → Type 0
IsPlain m = about m ≡ None

-- messages that tell of no life
abbrev pub AllPlain : List Msg → Type 0
AllPlain ms = AllByRecursion IsPlain ms

pub plain_append : (a b : List Msg) → AllPlain a → AllPlain b → AllPlain (a ++ b)
plain_append a b h k = all_append IsPlain a b h k

told : (me : ℕ) → HoldsOfTold me IsPlain
told me signal source target payload = refl

on_names : (t : Tables) (me : ℕ) → HoldsOfNames t me IsPlain
on_names t me = record {
  told = told me;
  register = λ e name. refl;
  withdraw = λ e. refl;
  answer = λ e code h. refl;
  bound = λ source target. refl;
  ended = λ source target. refl;
}

module _ (t : Tables) (me : ℕ) where
  pub plain_create_done : (o x : Endpoint) → AllPlain (create_done t me o x)
  plain_create_done o x = create_done_sends t me IsPlain (told me) o x

  pub plain_create_refused : (o x : Endpoint) (code : ℤ) → AllPlain (create_refused t me o x code)
  plain_create_refused o x code = create_refused_sends t me IsPlain (told me) o x code

  pub plain_destroy_done : (o x : Endpoint) (code : ℕ) → AllPlain (destroy_done t me o x code)
  plain_destroy_done o x code = destroy_done_sends t me IsPlain (told me) o x code

  pub plain_import : (l : Lives) (plugs : ℕ → List Incarnation) (m : Msg) (i h : Endpoint) → AllPlain (import t me l plugs m i h).sent
  plain_import l plugs m i h =
      import_sends t me IsAny (any_receivers t) IsPlain (λ d to source target payload. refl) (λ d to source target payload. refl) m tt l plugs i h

  pub plain_deport : (l : Lives) (plugs : ℕ → List Incarnation) (m : Msg) (i h : Endpoint) → AllPlain (deport me l plugs m i h).sent
  plain_deport l plugs m i h = deport_sends t me IsAny (any_receivers t) IsPlain (λ d to source target payload. refl) m tt l plugs i h

  pub plain_import_done : (l : Lives) (places : ℕ → ImportPlace) (h i : Endpoint) → AllPlain (import_done t me l places h i).sent
  plain_import_done l places h i = import_done_sends t me IsPlain (told me) l places h i

  pub plain_import_refused : (l : Lives) (places : ℕ → ImportPlace) (h i : Endpoint) (code : ℤ) → AllPlain (import_refused t me l places h i code).sent
  plain_import_refused l places h i code = import_refused_sends t me IsPlain (told me) l places h i code

  pub plain_import_ended : (l : Lives) (places : ℕ → ImportPlace) (h i : Endpoint) → AllPlain (import_ended t me l places h i).sent
  plain_import_ended l places h i = import_ended_sends t me IsPlain (told me) l places h i

  pub plain_deport_done : (l : Lives) (places : ℕ → ImportPlace) (h i : Endpoint) → AllPlain (deport_done t me l places h i).sent
  plain_deport_done l places h i = deport_done_sends t me IsPlain (told me) l places h i

  pub plain_ended_plugs : (x : Incarnation) (plugs : List Incarnation) → AllPlain (ended_plugs t me x plugs)
  plain_ended_plugs x plugs = ended_plugs_send t me IsAny (any_receivers t) IsPlain (λ d to source target payload. refl) x plugs

  pub plain_given_back : (x : Incarnation) (place : ImportPlace) → AllPlain (given_back t me x place)
  plain_given_back x place = given_back_sends t me IsAny (any_receivers t) IsPlain (λ d to source target payload. refl) x place

  pub plain_request : (f : Frame) (x : Incarnation) (c : FrameCommand) → AllPlain (frame_request t me f x c).sent
  plain_request f x c =
      frame_request_sends t me IsAny (any_receivers t) IsPlain (told me) (λ d to source target payload. refl) (λ d to source target payload. refl)
      (λ d to source target payload. refl) (λ d to source target payload. refl) f x c

  pub plain_name_request : (l : Links) (x : Incarnation) (c : NameCommand) → AllPlain (name_request t me l x c).sent
  plain_name_request l x c = name_request_sends t me IsPlain (on_names t me) l x c

  pub plain_end_of : (l : Links) (x : Incarnation) → AllPlain (end_of t me l x).sent
  plain_end_of l x = end_of_sends t me IsPlain (on_names t me) l x

  pub plain_links : (l : Links) (live : Bool) (k : SysKind) (m : Msg) → AllPlain (links_duty t me l live k m).sent
  plain_links l live k m = links_duty_sends t me IsPlain (told me) l live k m

  pub plain_table : (table : NameTable) (k : SysKind) (m : Msg) → AllPlain (table_duty t me table k m).sent
  plain_table table k m = table_duty_sends t me IsPlain (on_names t me) table k m

  -- what actors send above the system level tells of no life
  pub plain_send : (f : Frame) (l : Links) (x : Incarnation) (p : ℕ) (k : ℤ) (c : Content) → (c.prio.0 == 0) ≡ false → AllPlain (send t me f l x p k c).messages
  plain_send f l x p k c h = send_sends t me IsPlain c (λ source target. rw h refl) f l x p k

  pub plain_broadcast : (f : Frame) (l : Links) (x : Incarnation) (p : ℕ) (c : Content) → (c.prio.0 == 0) ≡ false → AllPlain (broadcast t me f l x p c).messages
  plain_broadcast f l x p c h = broadcast_sends t me IsPlain c (λ source target. rw h refl) f l x p
