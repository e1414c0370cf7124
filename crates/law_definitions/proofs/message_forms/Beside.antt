-- What the layer service and actors send: what service points ask, what the name table answers and tells, and
-- messages above the system level.
use Rattle.std.proofs.Common.{◌≡◌, ◌||◌, ℕ, ◌==◌, Bool, true, false, [], ◌∷◌, ℤ, pos, refl, inl, inr, ap, eqb-true}
use Rattle.room_kinds.specs.declared.message.Msg.{Msg}
use Rattle.room_kinds.specs.declared.numbers.Incarnation.{Incarnation}
use Rattle.room_kinds.specs.declared.system.SysKind.{SysKind}
use Rattle.room_kinds.specs.declared.system.SysKind.TheVariants as kinds
use Rattle.room_kinds.specs.declared.command.NameCommand.{NameCommand}
use Rattle.room_wiring.specs.declared.tables.Tables.{Tables}
use Rattle.actor_duties.specs.State.{Frame, Links, NameTable}
use Rattle.actor_duties.specs.Names.{withdraw, register, table_duty}
use Rattle.actor_duties.specs.Links.{links_duty, name_request, end_of}
use Rattle.actor_duties.specs.Commands.{Content, message, send, broadcast}
use Rattle.actor_duties.proofs.NameSends.{to_itself, is_answer, HoldsOfNames, name_request_sends, end_of_sends, links_duty_sends, table_duty_sends, send_sends, broadcast_sends}
use Rattle.law_names.proofs.Standing.{self_endpoint}
use Rattle.law_definitions.specs.message_forms.Forms.{TellsReply}
use Rattle.law_definitions.proofs.message_forms.Inner.{IsSent, AllSent, open_sent}

-- a reply is 0, 8 or 9
reply_of : (code : ℕ) → is_answer code ≡ true → TellsReply (pos code ∷ [])
reply_of code h = go (code == 0) (code == 8) (code == 9) refl refl refl h
  where
    go : (a b c : Bool) → (code == 0) ≡ a → (code == 8) ≡ b → (code == 9) ≡ c → (a || (b || c)) ≡ true → TellsReply (pos code ∷ [])
    go true b c e f g k = inl (ap (λ k. pos k ∷ []) (eqb-true code 0 e))
    go false true c e f g k = inr (inl (ap (λ k. pos k ∷ []) (eqb-true code 8 f)))
    go false false true e f g k = inr (inr (ap (λ k. pos k ∷ []) (eqb-true code 9 g)))
    go false false false e f g k = absurd cc

-- each message on names has its inner form
on_names : (t : Tables) (me : ℕ) → HoldsOfNames t me (IsSent t me)
on_names t me = record {
  told = λ signal source target payload. open_sent t me (to_itself me signal source target payload) refl;
  register = λ e name zero. record { kind = kinds.Register; is = refl; source = e; comes = refl; form = (self_endpoint e, (name, refl)) };
  withdraw = λ e zero. record { kind = kinds.Withdraw; is = refl; source = e; comes = refl; form = (self_endpoint e, refl) };
  answer = λ e code h zero. record { kind = kinds.NameReply; is = refl; source = e; comes = refl; form = (self_endpoint e, reply_of code h) };
  bound = λ source target zero. record { kind = kinds.Bound; is = refl; source = source; comes = refl; form = refl };
  ended = λ source target zero. record { kind = kinds.Ended; is = refl; source = source; comes = refl; form = refl };
}

module _ (t : Tables) (me : ℕ) where
  pub name_sent : (l : Links) (x : Incarnation) (c : NameCommand) → AllSent t me (name_request t me l x c).sent
  name_sent l x c = name_request_sends t me (IsSent t me) (on_names t me) l x c

  pub ended_sent : (l : Links) (x : Incarnation) → AllSent t me (end_of t me l x).sent
  ended_sent l x = end_of_sends t me (IsSent t me) (on_names t me) l x

  pub links_sent : (l : Links) (live : Bool) (k : SysKind) (m : Msg) → AllSent t me (links_duty t me l live k m).sent
  links_sent l live k m = links_duty_sends t me (IsSent t me) (on_names t me).told l live k m

  pub table_sent : (table : NameTable) (k : SysKind) (m : Msg) → AllSent t me (table_duty t me table k m).sent
  table_sent table k m = table_duty_sends t me (IsSent t me) (on_names t me) table k m

  pub content_sent : (f : Frame) (l : Links) (x : Incarnation) (p : ℕ) (k : ℤ) (c : Content) → (c.prio.0 == 0) ≡ false → AllSent t me (send t me f l x p k c).messages
  content_sent f l x p k c h = send_sends t me (IsSent t me) c (λ source target. open_sent t me (message t me source target c) h) f l x p k

  pub broadcast_sent : (f : Frame) (l : Links) (x : Incarnation) (p : ℕ) (c : Content) → (c.prio.0 == 0) ≡ false → AllSent t me (broadcast t me f l x p c).messages
  broadcast_sent f l x p c h = broadcast_sends t me (IsSent t me) c (λ source target. open_sent t me (message t me source target c) h) f l x p
