use Rattle.std.proofs.Common.{◌≡◌, ◌++◌, ◌∷◌, [], List, ap, ◌∙◌, subst}
use Rattle.journal.specs.declared.entry.Entry.{Entry}
use Rattle.controller_mail.specs.Steps.{Posts}
use Rattle.controller_mail.proofs.Mails.{Posts-kept, none-posted}
use Rattle.controller.specs.States.{mail_with}
use Rattle.controller.specs.View.{Controller}
use Rattle.controller.proofs.Keeping.{kept, kept_others, kept_same, others_of_same}
use Rattle.controller.proofs.controller.Controller.post.Goals as goal

pub returns-in-Err-clause-err : goal.returns-in-Err-clause-err
returns-in-Err-clause-err c =
    let s = c.self.inside in
    kept_same s.state c.post.new.self s.journal.items c.reserve.new.self.items s.fuel s.failed c.in-Err.ensures.err c.in_ok-reserve.ensures.items ∙ c.self.view_is

pub returns-in-Ok-None-clause-ok : goal.returns-in-Ok-None-clause-ok
returns-in-Ok-None-clause-ok c =
    let s = c.self.inside in (
      subst (λ (k : Controller). k.mail.outbox ≡ []) c.self.view_is (none-posted s.state.me.0 s.state.mail (rw c.in-Ok-None.field-0-is at c.in-Ok-None.ensures.mail)),
      kept_same s.state c.post.new.self s.journal.items c.reserve.new.self.items s.fuel s.failed (rw c.in-Ok-None.field-0-is at c.in-Ok-None.ensures.none) c.in_ok-reserve.ensures.items ∙ c.self.view_is,
    )

pub returns-in-Ok-None-clause-others : goal.returns-in-Ok-None-clause-others
returns-in-Ok-None-clause-others c =
    let s = c.self.inside in
    others_of_same c.args.self.now (kept c.post.new.self c.reserve.new.self.items s.fuel s.failed)
    (kept_same s.state c.post.new.self s.journal.items c.reserve.new.self.items s.fuel s.failed (rw c.in-Ok-None.field-0-is at c.in-Ok-None.ensures.none) c.in_ok-reserve.ensures.items ∙ c.self.view_is)

pub returns-in-Ok-Some-clause-ok : goal.returns-in-Ok-Some-clause-ok
returns-in-Ok-Some-clause-ok c =
    let s = c.self.inside in
    let new = c.post.new.self in
    let posted = c.in-Ok-Some.posted in
    let journal = c.push_reserved.new.self.items in
    subst (λ (old : Controller). Posts old.me.0 old.mail (mail_with new journal) posted.message) c.self.view_is
    (Posts-kept s.state.me.0 s.state.mail new.mail posted.message posted.entry s.journal.items journal (rw c.in-Ok-Some.field-0-is at c.in-Ok-Some.ensures.mail) (rw c.in-Ok-Some.field-0-is at c.in-Ok-Some.ensures.entry)
    (c.push_reserved.ensures.items ∙ ap (λ (es : List Entry). es ++ posted.entry ∷ []) c.in_ok-reserve.ensures.items))

pub returns-in-Ok-Some-clause-others : goal.returns-in-Ok-Some-clause-others
returns-in-Ok-Some-clause-others c =
    let s = c.self.inside in
    let new = c.post.new.self in
    let journal = c.push_reserved.new.self.items in
    subst (λ (old : Controller). kept new journal s.fuel s.failed ≡ record old { mail = mail_with new journal }) c.self.view_is
    (kept_others s.state new s.journal.items journal s.fuel s.failed c.in-Ok-Some.ensures.others)
