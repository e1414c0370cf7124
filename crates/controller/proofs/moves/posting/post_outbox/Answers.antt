use Rattle.std.proofs.Common.{◌≡◌, ◌==◌, ◌-◌, List, [], ◌∷◌, false, not, length, refl, sym, ap, ◌∙◌, subst, arith}
use Rattle.std.proofs.lemmas.Bool.{ne_eqb, not_from_false, true≢false}
use Rattle.room_kinds.specs.declared.message.Msg.{Msg}
use Rattle.room_kinds.specs.declared.numbers.ControllerId.{ControllerId}
use Rattle.mail_core.proofs.Tied.{IsTied-step, StaysTied-step}
use Rattle.controller_mail.specs.Steps.{Posts}
use Rattle.controller_mail.proofs.Waiting.{post_waits}
use Rattle.controller_mail.proofs.controller_moves.Posted.{Posts-went, PostsFrom-more}
use Rattle.controller.specs.View.{Controller}
use Rattle.controller.proofs.moves.posting.post_outbox.Goals as goal

none_waits : (ms : List Msg) → not (length ms == 0) ≡ false → ms ≡ []
none_waits [] e = refl
none_waits (m ∷ ms) e = absurd (true≢false (sym (not_from_false _ (ne_eqb (length (m ∷ ms)) 0 (λ z. absurd (omega (arith, z))))) ∙ e))

pub returns-clause-empty : goal.returns-clause-empty
returns-clause-empty g c = none_waits c.loop-controller.controller.mail.outbox (sym c.has_outbox.ensures ∙ c.loop-controller-test.false)

pub post_one-requires-clause-from : goal.post_one-requires-clause-from
post_one-requires-clause-from g c = (Posts-went (subst (λ (i : ControllerId). Posts i.0 c.loop-controller.controller.mail c.post.new.self.mail c.in-Ok-Some.m) c.loop-controller.invariant.me (rw c.in-Ok-Some.field-0-is at c.in-Ok-Some.ensures.ok))).from ∙ sym (c.loop-controller.invariant.party ∙ c.requires.party)

pub post_one-requires-clause-to : goal.post_one-requires-clause-to
post_one-requires-clause-to g c =
    let parties = c.loop-controller.invariant.parties in
    let within = (post_waits ((g.M.Mail.log c.args.end.now).parties - 1) _ _ _ _ (subst (λ (i : ControllerId). Posts i.0 c.loop-controller.controller.mail c.post.new.self.mail c.in-Ok-Some.m) c.loop-controller.invariant.me (rw c.in-Ok-Some.field-0-is at c.in-Ok-Some.ensures.ok)) c.loop-controller.invariant.waits).0.0 in
    omega (arith, parties, within)

pub post_one-requires-clause-prio : goal.post_one-requires-clause-prio
post_one-requires-clause-prio g c = (post_waits ((g.M.Mail.log c.args.end.now).parties - 1) _ _ _ _ (subst (λ (i : ControllerId). Posts i.0 c.loop-controller.controller.mail c.post.new.self.mail c.in-Ok-Some.m) c.loop-controller.invariant.me (rw c.in-Ok-Some.field-0-is at c.in-Ok-Some.ensures.ok)) c.loop-controller.invariant.waits).0.1

pub loop-controller-preserved : goal.loop-controller-preserved
loop-controller-preserved g c =
    let posts = subst (λ (i : ControllerId). Posts i.0 c.loop-controller.controller.mail c.post.new.self.mail c.in-Ok-Some.m) c.loop-controller.invariant.me (rw c.in-Ok-Some.field-0-is at c.in-Ok-Some.ensures.ok) in
    let went = post_waits ((g.M.Mail.log c.args.end.now).parties - 1) _ _ _ _ posts c.loop-controller.invariant.waits in
    let one = c.in_ok-post_one-in-Ok-Some.ensures in
    let here = c.loop-controller.invariant in
    record {
      waits = went.1;
      me = ap (λ (k : Controller). k.me) c.in-Ok-Some.ensures.others ∙ here.me;
      others = c.in-Ok-Some.ensures.others ∙ ap (λ (k : Controller). record k { mail = c.post.new.self.mail }) here.others;
      so_far = PostsFrom-more c.in-Ok-Some.m here.so_far posts one.ok went.0;
      party = one.party.0 ∙ here.party;
      parties = one.party.1 ∙ here.parties;
      now = IsTied-step here.now one.tied (sym one.party.0);
      tied = StaysTied-step here.tied one.tied (sym here.party);
    }

pub returns-in-Err-clause-me : goal.returns-in-Err-clause-me
returns-in-Err-clause-me g c = ap (λ (k : Controller). k.me) c.in-Err.ensures.err ∙ c.loop-controller.invariant.me

pub returns-in_err-post_one-in-Ok-Some-clause-me : goal.returns-in_err-post_one-in-Ok-Some-clause-me
returns-in_err-post_one-in-Ok-Some-clause-me g c = ap (λ (k : Controller). k.me) c.in-Ok-Some.ensures.others ∙ c.loop-controller.invariant.me
