use Rattle.std.proofs.Common.{◌∷◌, ◌≡◌, sym, arith}
use Rattle.std.proofs.lemmas.List.Elements.{All-cons}
use Rattle.room_kinds.specs.declared.message.Msg.{Msg}
use Rattle.controller_mail.proofs.Pendings.{changed_ranked, changed_ok}
use Rattle.controller_mail.proofs.pending.Pending.put_in_front.Goals as goal

pub invariant_of-self : goal.invariant_of-self
invariant_of-self c =
    changed_ranked c.push_front.result (λ ms. c.args.m ∷ ms) c.self.inside.lists.items c.from.result c.index_mut-list.result.now c.push_front.new.self c.self.invariant
    (omega (arith, c.from.ensures, c.requires)) c.index_mut-list.ensures.value
    (λ own. All-cons (λ (x : Msg). x.prio.0 ≡ c.from.result) c.args.m c.index_mut-list.result.now (sym c.from.ensures) own) c.push_front.ensures.ok c.push_front.ensures.err

pub returns-clause-ok : goal.returns-clause-ok
returns-clause-ok c =
    changed_ok c.push_front.result (λ ms. c.args.m ∷ ms) c.self.inside.lists.items c.args.self.now c.from.result c.args.m.prio.0 c.index_mut-list.result.now c.push_front.new.self
    c.self.view_is c.from.ensures (omega (arith, c.from.ensures, c.requires, c.self.invariant.six)) c.index_mut-list.ensures.value c.push_front.ensures.ok
