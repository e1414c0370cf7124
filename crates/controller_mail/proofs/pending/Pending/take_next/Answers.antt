use Rattle.std.proofs.Common.{[], refl, sym, ap, ◌∙◌, subst, position}
use Rattle.std.proofs.lemmas.List.Quantifiers.{position-Some}
use Rattle.controller_mail.specs.MailState.{has_messages, IsRanked}
use Rattle.controller_mail.proofs.Pendings.{next_of-none, popped, popped_ranked}
use Rattle.controller_mail.proofs.pending.Pending.take_next.Goals as goal

pub returns-in_default : goal.returns-in_default
returns-in_default c =
    (next_of-none c.args.self.now (subst (λ lists. IsRanked lists) c.self.view_is c.self.invariant) (sym c.first_list.ensures ∙ c.in_default.is), refl)

pub invariant_of-self : goal.invariant_of-self
invariant_of-self c =
    let lists = c.self.inside.lists.items in
    let found = position-Some has_messages lists c.in-Some.at [] (ap (λ ls. position has_messages ls) c.self.view_is ∙ sym c.first_list.ensures ∙ c.in-Some.is) in
    popped_ranked c.pop_front.result lists c.in-Some.at _ _ c.self.invariant found.0 c.index_mut-list.ensures.value c.pop_front.ensures

pub returns : goal.returns
returns c =
    let lists = c.self.inside.lists.items in
    popped c.pop_front.result lists c.args.self.now c.in-Some.at _ _ c.self.view_is c.self.invariant
    (ap (λ ls. position has_messages ls) c.self.view_is ∙ sym c.first_list.ensures ∙ c.in-Some.is) c.index_mut-list.ensures.value c.pop_front.ensures
