-- Of all that duties and commands send, only the rows on imports and the end of actors send messages on loans.
use Rattle.std.proofs.Common.{◌≡◌, ℕ, ◌==◌, Bool, false, List, flat_map, Option, None, ℤ, refl}
use Rattle.std.specs.List.{AllByRecursion}
use Rattle.room_kinds.specs.declared.message.Msg.{Msg}
use Rattle.room_kinds.specs.declared.numbers.Incarnation.{Incarnation}
use Rattle.room_kinds.specs.declared.numbers.Endpoint.{Endpoint}
use Rattle.room_kinds.specs.declared.system.SysKind.{SysKind}
use Rattle.room_kinds.specs.declared.system.SysKind.TheVariants as kinds
use Rattle.room_kinds.specs.declared.command.NameCommand.{NameCommand}
use Rattle.room_wiring.specs.declared.tables.Tables.{Tables}
use Rattle.actor_duties.specs.State.{Lives, Frame, Links, ImportPlace, NameTable}
use Rattle.actor_duties.specs.Lives.{create, create_done, create_refused, destroy_done, announces, part_make}
use Rattle.actor_duties.specs.Imports.{import_done, import_refused, import_ended, deport_done}
use Rattle.actor_duties.specs.Frame.{asked_of, part_ends}
use Rattle.actor_duties.specs.Names.{table_duty}
use Rattle.actor_duties.specs.Links.{links_duty, name_request, end_of}
use Rattle.actor_duties.specs.Commands.{Content, send, broadcast}
use Rattle.actor_duties.proofs.NameSends.{HoldsOfTold, HoldsOfNames, name_request_sends, end_of_sends, links_duty_sends, table_duty_sends, send_sends, broadcast_sends}
use Rattle.actor_duties.proofs.FrameSends.{IsAny, any_receivers, create_done_sends, create_refused_sends, destroy_done_sends, import_done_sends, import_refused_sends, import_ended_sends, deport_done_sends, announces_send, part_make_sends, create_sends, part_ends_send, asked_holds}
use Rattle.law_agreement.specs.Imports.{forth_on, back_on}

-- a message on no loan
abbrev pub IsOffLoan : Msg → Type 0
IsOffLoan m = (forth_on m ≡ None) × (back_on m ≡ None)

-- messages on no loan
abbrev pub AllOffLoan : List Msg → Type 0
AllOffLoan ms = AllByRecursion IsOffLoan ms

told : (me : ℕ) → HoldsOfTold me IsOffLoan
told me signal source target payload = (refl, refl)

on_names : (t : Tables) (me : ℕ) → HoldsOfNames t me IsOffLoan
on_names t me = record {
  told = told me;
  register = λ e name. (refl, refl);
  withdraw = λ e. (refl, refl);
  answer = λ e code h. (refl, refl);
  bound = λ source target. (refl, refl);
  ended = λ source target. (refl, refl);
}

module _ (t : Tables) (me : ℕ) where
  pub off_create_done : (o x : Endpoint) → AllOffLoan (create_done t me o x)
  off_create_done o x = create_done_sends t me IsOffLoan (told me) o x

  pub off_create_refused : (o x : Endpoint) (code : ℤ) → AllOffLoan (create_refused t me o x code)
  off_create_refused o x code = create_refused_sends t me IsOffLoan (told me) o x code

  pub off_destroy_done : (o x : Endpoint) (code : ℕ) → AllOffLoan (destroy_done t me o x code)
  off_destroy_done o x code = destroy_done_sends t me IsOffLoan (told me) o x code

  pub off_import_done : (l : Lives) (places : ℕ → ImportPlace) (h i : Endpoint) → AllOffLoan (import_done t me l places h i).sent
  off_import_done l places h i = import_done_sends t me IsOffLoan (told me) l places h i

  pub off_import_refused : (l : Lives) (places : ℕ → ImportPlace) (h i : Endpoint) (code : ℤ) → AllOffLoan (import_refused t me l places h i code).sent
  off_import_refused l places h i code = import_refused_sends t me IsOffLoan (told me) l places h i code

  pub off_import_ended : (l : Lives) (places : ℕ → ImportPlace) (h i : Endpoint) → AllOffLoan (import_ended t me l places h i).sent
  off_import_ended l places h i = import_ended_sends t me IsOffLoan (told me) l places h i

  pub off_deport_done : (l : Lives) (places : ℕ → ImportPlace) (h i : Endpoint) → AllOffLoan (deport_done t me l places h i).sent
  off_deport_done l places h i = deport_done_sends t me IsOffLoan (told me) l places h i

  pub off_announces : (x : Incarnation) (up : ℤ) → AllOffLoan (announces t me x up)
  off_announces x up = announces_send t me IsAny (any_receivers t) IsOffLoan (λ d to source target payload. (refl, refl)) x up

  pub off_part_make : (l : Lives) (o : ℕ) → AllOffLoan (part_make t me l o).sent
  off_part_make l o = part_make_sends t me IsAny (any_receivers t) IsOffLoan (λ d to source target payload. (refl, refl)) l o

  pub off_create : (l : Lives) (m : Msg) (o : ℕ) (x : Endpoint) → AllOffLoan (create t me l m o x).sent
  off_create l m o x =
      create_sends t me IsAny (any_receivers t) IsOffLoan (λ d to source target payload. (refl, refl)) (λ d to source target payload. (refl, refl)) l m o x

  pub off_part_ends : (f : Frame) (ss : List ℕ) → AllOffLoan (flat_map (part_ends t me f) ss)
  off_part_ends f ss = part_ends_send t me IsAny (any_receivers t) IsOffLoan (λ d to source target payload. (refl, refl)) f ss

  -- requests to make and to end an actor
  pub off_asked : (x : Incarnation) (reference : ℕ) (index : ℤ) (o : Option ℕ)
      → IsOffLoan (asked_of t me kinds.Create x reference index o) × IsOffLoan (asked_of t me kinds.Destroy x reference index o)
  off_asked x reference index o = (
    asked_holds t me IsAny (any_receivers t) IsOffLoan (told me) kinds.Create (λ d to source target payload. (refl, refl)) x reference index o,
    asked_holds t me IsAny (any_receivers t) IsOffLoan (told me) kinds.Destroy (λ d to source target payload. (refl, refl)) x reference index o,
  )

  pub off_name_request : (l : Links) (x : Incarnation) (c : NameCommand) → AllOffLoan (name_request t me l x c).sent
  off_name_request l x c = name_request_sends t me IsOffLoan (on_names t me) l x c

  pub off_end_of : (l : Links) (x : Incarnation) → AllOffLoan (end_of t me l x).sent
  off_end_of l x = end_of_sends t me IsOffLoan (on_names t me) l x

  pub off_links : (l : Links) (live : Bool) (k : SysKind) (m : Msg) → AllOffLoan (links_duty t me l live k m).sent
  off_links l live k m = links_duty_sends t me IsOffLoan (told me) l live k m

  pub off_table : (table : NameTable) (k : SysKind) (m : Msg) → AllOffLoan (table_duty t me table k m).sent
  off_table table k m = table_duty_sends t me IsOffLoan (on_names t me) table k m

  -- what actors send above the system level is on no loan
  pub off_send : (f : Frame) (l : Links) (x : Incarnation) (p : ℕ) (k : ℤ) (c : Content) → (c.prio.0 == 0) ≡ false → AllOffLoan (send t me f l x p k c).messages
  off_send f l x p k c h = send_sends t me IsOffLoan c (λ source target. (rw h refl, rw h refl)) f l x p k

  pub off_broadcast : (f : Frame) (l : Links) (x : Incarnation) (p : ℕ) (c : Content) → (c.prio.0 == 0) ≡ false → AllOffLoan (broadcast t me f l x p c).messages
  off_broadcast f l x p c h = broadcast_sends t me IsOffLoan c (λ source target. (rw h refl, rw h refl)) f l x p
