use Rattle.std.proofs.Common.{sym, ap, ◌∙◌, arith}
use Rattle.std.proofs.lemmas.List.Elements.{All-pop}
use Rattle.actor_merge.specs.Parties.{put_back}
use Rattle.controller_mail.specs.MailState.{pending_of, HasPriority}
use Rattle.controller_mail.proofs.Pendings.{put_back-push, put_back-empty}
use Rattle.controller_mail.proofs.pending.Pending.put_back.Goals as goal

pub loop-m-preserved : goal.loop-m-preserved
loop-m-preserved c =
    let rest = c.pop.new.self.items in
    let before = pending_of c.loop-m.self in
    record {
      within = (All-pop HasPriority c.loop-m.back.items rest c.pop.result c.pop.ensures.items c.loop-m.invariant.within).0;
      same = ap (λ f. put_back rest f) c.in_ok-put_in_front.ensures.ok
          ∙ sym (put_back-push rest c.in-Some.m before)
          ∙ ap (λ ms. put_back ms before) (sym c.in-Some.ensures.items)
          ∙ c.loop-m.invariant.same;
    }

pub returns : goal.returns
returns c =
    sym (put_back-empty c.loop-m.back.items (pending_of c.loop-m.self) (omega (arith, c.in_default.ensures.cases, c.loop-m.back.ok.0)))
    ∙ c.loop-m.invariant.same
