use Rattle.std.proofs.Common.{◌≡◌, ℕ, List, [], ◌∷◌, ◌++◌, pos, subst, sym, ap, ◌∙◌, append_assoc}
use Rattle.std.specs.Prelude.{position, slice_set, Some, None}
use Rattle.room_kinds.specs.declared.message.Msg.{Msg}
use Rattle.actor_duties.specs.Messages.{coded, NotRegistered}
use Rattle.actor_duties.specs.State.{Service, NameTable, Done}
use Rattle.actor_duties.specs.Names.{withdraw, leave, stands_in, name_reply_to}
use Rattle.layer_service.proofs.name_service.Table.{left_at, withdraw_at, withdraw_nowhere}
use Rattle.layer_service.proofs.name_service.name_service.NameService.withdraw.Goals as goal

pub returns-in_default : goal.returns-in_default
returns-in_default c =
    let t = c.args.wiring.now in
    let e = c.args.endpoint in
    let out = c.args.out.now in
    let nowhere : position (stands_in e) c.args.self.now ≡ None =
    subst (λ (table : NameTable). position (stands_in e) table ≡ None) (c.as_slice.ensures.value ∙ c.self.view_is) (sym c.place_with.ensures ∙ c.in_default.is) in
    let whole : withdraw t e c.args.self.now ≡ record { now = c.args.self.now; sent = name_reply_to t e (coded NotRegistered) ∷ [] } = withdraw_nowhere t e c.args.self.now nowhere in
    record {
      now = sym (ap (λ (r : Done NameTable). r.now) whole);
      sent =
          c.in_ok-reply.ensures ∙ ap (λ (n : ℕ). out ++ name_reply_to t e (pos n ∷ []) ∷ []) c.number.ensures
          ∙ sym (ap (λ (r : Done NameTable). out ++ r.sent) whole);
    }

pub returns : goal.returns
returns c =
    let t = c.args.wiring.now in
    let e = c.args.endpoint in
    let out = c.args.out.now in
    let items : NameTable = c.self.inside.services.items in
    let place = c.in-Some.place in
    let service : Service = c.index_mut.result.now in
    let found : position (stands_in e) items ≡ Some place =
    subst (λ (table : NameTable). position (stands_in e) table ≡ Some place) c.as_slice.ensures.value (sym c.place_with.ensures ∙ c.in-Some.is) in
    let whole : withdraw t e c.args.self.now ≡ left_at t e items place (leave t e service) =
    sym (ap (withdraw t e) c.self.view_is) ∙ withdraw_at t e items place service found
    ∙ sym (ap (λ (s : Service). left_at t e items place (leave t e s)) c.index_mut.ensures.value) in
    record {
      now = ap (slice_set items place) c.in_ok-leave.ensures.now ∙ sym (ap (λ (r : Done NameTable). r.now) whole);
      sent =
          c.in_ok-reply-2.ensures ∙ ap (λ (ms : List Msg). ms ++ name_reply_to t e (pos 0 ∷ []) ∷ []) c.in_ok-leave.ensures.sent
          ∙ append_assoc out (leave t e service).sent (name_reply_to t e (pos 0 ∷ []) ∷ [])
          ∙ sym (ap (λ (r : Done NameTable). out ++ r.sent) whole);
    }
