use Rattle.std.proofs.Common.{◌≡◌, ◌++◌, ◌∷◌, [], List, None, false, true, length, refl, sym, ap, ◌∙◌, subst}
use Rattle.journal.specs.declared.entry.Entry.{Entry}
use Rattle.actor_merge.specs.Parties.{next_of}
use Rattle.controller_mail.specs.MailState.{pending_of}
use Rattle.controller.specs.Controllers.{IsOf}
use Rattle.controller.specs.Calls.{Turns, took_none}
use Rattle.controller.specs.View.{Controller}
use Rattle.controller.proofs.Keeping.{kept, kept_same, turn_kept, waits_kept}
use Rattle.controller.proofs.controller.Controller.take_turn.Goals as goal

pub turn-requires-clause-of : goal.turn-requires-clause-of
turn-requires-clause-of c =
    let s = c.self.inside in
    let of : IsOf c.args.plant.now (kept s.state s.journal.items s.fuel s.failed) = subst (λ (k : Controller). IsOf c.args.plant.now k) (sym c.self.view_is) c.requires.of in
    record { me = of.me; well = of.well (subst (λ (k : Controller). k.failed ≡ false) (sym c.self.view_is) c.requires.works) }

pub turn-requires-clause-outbox : goal.turn-requires-clause-outbox
turn-requires-clause-outbox c = subst (λ (k : Controller). k.mail.outbox ≡ []) (sym c.self.view_is) c.requires.outbox

pub returns-in_err-reserve-clause-me : goal.returns-in_err-reserve-clause-me
returns-in_err-reserve-clause-me c = ap (λ (k : Controller). k.me) c.self.view_is

pub returns-in-Err-clause-me : goal.returns-in-Err-clause-me
returns-in-Err-clause-me c = c.in-Err.ensures.me ∙ ap (λ (k : Controller). k.me) c.self.view_is

pub returns-in-Ok-None-clause-ok : goal.returns-in-Ok-None-clause-ok
returns-in-Ok-None-clause-ok c =
    let s = c.self.inside in
    let none = rw c.in-Ok-None.field-0-is at c.in-Ok-None.ensures.ok in
    took_none refl (subst (λ (k : Controller). next_of (pending_of k.mail.pending) ≡ None) c.self.view_is none.0)
    (kept_same s.state c.turn.new.self s.journal.items c.reserve.new.self.items s.fuel s.failed none.1 c.in_ok-reserve.ensures.items ∙ c.self.view_is)

pub returns-in-Ok-None-clause-of : goal.returns-in-Ok-None-clause-of
returns-in-Ok-None-clause-of c =
    let s = c.self.inside in
    let none = rw c.in-Ok-None.field-0-is at c.in-Ok-None.ensures.ok in
    subst (λ (k : Controller). IsOf c.args.plant.now k)
    (sym (kept_same s.state c.turn.new.self s.journal.items c.reserve.new.self.items s.fuel s.failed none.1 c.in_ok-reserve.ensures.items ∙ c.self.view_is)) c.requires.of

pub returns-in-Ok-None-clause-me : goal.returns-in-Ok-None-clause-me
returns-in-Ok-None-clause-me c = c.in-Ok-None.ensures.me ∙ ap (λ (k : Controller). k.me) c.self.view_is

pub returns-in-Ok-Some-clause-ok : goal.returns-in-Ok-Some-clause-ok
returns-in-Ok-Some-clause-ok c =
    let s = c.self.inside in
    let new = c.turn.new.self in
    let entry = c.in-Ok-Some.entry in
    let journal = c.push_reserved.new.self.items in
    let works : s.failed ≡ false = subst (λ (k : Controller). k.failed ≡ false) (sym c.self.view_is) c.requires.works in
    subst (λ (k : Controller). Turns c.args.plant.now k (kept new journal s.fuel s.failed) true) c.self.view_is
    (turn_kept c.args.plant.now s.state new s.journal.items journal s.fuel s.failed entry works
    (c.push_reserved.ensures.items ∙ ap (λ (es : List Entry). es ++ entry ∷ []) c.in_ok-reserve.ensures.items)
    (rw c.in-Ok-Some.field-0-is at c.in-Ok-Some.ensures.ok) (rw c.in-Ok-Some.field-0-is at c.in-Ok-Some.ensures.turn))

pub returns-in-Ok-Some-clause-of : goal.returns-in-Ok-Some-clause-of
returns-in-Ok-Some-clause-of c =
    let s = c.self.inside in
    let new = c.turn.new.self in
    let n = length c.args.plant.now.wiring.controllers in
    let of : IsOf c.args.plant.now (kept s.state s.journal.items s.fuel s.failed) = subst (λ (k : Controller). IsOf c.args.plant.now k) (sym c.self.view_is) c.requires.of in
    let turn = rw c.in-Ok-Some.field-0-is at c.in-Ok-Some.ensures.turn in
    let now = c.in-Ok-Some.ensures.of in
    record {
      me = now.me;
      well = λ works. now.well;
      waits = λ works. waits_kept n new [] c.push_reserved.new.self.items (turn.waits (waits_kept n s.state s.journal.items [] (of.waits works)));
    }

pub returns-in-Ok-Some-clause-me : goal.returns-in-Ok-Some-clause-me
returns-in-Ok-Some-clause-me c = c.in-Ok-Some.ensures.me ∙ ap (λ (k : Controller). k.me) c.self.view_is
