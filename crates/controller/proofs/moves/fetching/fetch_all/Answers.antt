use Rattle.std.proofs.Common.{All, sym, ap, ◌∙◌, subst}
use Rattle.std.proofs.lemmas.List.Elements.{All-head, All-rest}
use Rattle.controller_mail.specs.MailState.{HasPriority}
use Rattle.controller_mail.specs.Within.{IsAnswerable}
use Rattle.controller_mail.specs.controller_moves.Moves.{FetchesEach}
use Rattle.controller_mail.proofs.Waiting.{fetch_waits}
use Rattle.controller.specs.View.{Controller}
use Rattle.controller.proofs.moves.fetching.fetch_all.Goals as goal

pub loop-m-preserved : goal.loop-m-preserved
loop-m-preserved c =
    let m = c.in-Some.m in
    let rest = c.pop_front.new.self.items in
    record {
      answerable = λ n h. All-rest (IsAnswerable n) m rest c.loop-m.queue.items c.in-Some.ensures.items (c.loop-m.invariant.answerable n h);
      waits = λ n h w.
          let first = All-head (IsAnswerable n) m rest (subst (All (IsAnswerable n)) c.in-Some.ensures.items (c.loop-m.invariant.answerable n h)) in
          fetch_waits n c.loop-m.controller.mail c.fetch.new.self.mail m c.in_ok-fetch.ensures.ok first (c.loop-m.invariant.waits n h w);
      within = All-rest HasPriority m rest c.loop-m.queue.items c.in-Some.ensures.items c.loop-m.invariant.within;
      rest = λ new h. c.loop-m.invariant.rest new (subst (λ q. FetchesEach c.loop-m.controller.mail q new) (sym c.in-Some.ensures.items) (c.fetch.new.self.mail, c.in_ok-fetch.ensures.ok, h));
      me = ap (λ (k : Controller). k.me) c.in_ok-fetch.ensures.others ∙ c.loop-m.invariant.me;
      others = c.in_ok-fetch.ensures.others ∙ ap (λ (k : Controller). record k { mail = c.fetch.new.self.mail }) c.loop-m.invariant.others;
    }

pub returns-in_err-fetch-clause-me : goal.returns-in_err-fetch-clause-me
returns-in_err-fetch-clause-me c = ap (λ (k : Controller). k.me) c.in_err-fetch.ensures.err ∙ c.loop-m.invariant.me
