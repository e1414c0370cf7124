use Rattle.std.proofs.Common.{◌≡◌, ◌++◌, ◌∷◌, [], List, ap, ◌∙◌, subst}
use Rattle.journal.specs.declared.entry.Entry.{Entry}
use Rattle.controller_mail.specs.Steps.{Fetches}
use Rattle.controller_mail.proofs.Mails.{Fetches-kept}
use Rattle.controller.specs.States.{mail_with}
use Rattle.controller.specs.View.{Controller}
use Rattle.controller.proofs.Keeping.{kept, kept_others, kept_same}
use Rattle.controller.proofs.controller.Controller.fetch.Goals as goal

pub returns-in-Err-clause-err : goal.returns-in-Err-clause-err
returns-in-Err-clause-err c =
    let s = c.self.inside in
    kept_same s.state c.fetch.new.self s.journal.items c.reserve.new.self.items s.fuel s.failed c.in-Err.ensures.err c.in_ok-reserve.ensures.items ∙ c.self.view_is

pub returns-in-Ok-clause-ok : goal.returns-in-Ok-clause-ok
returns-in-Ok-clause-ok c =
    let s = c.self.inside in
    let new = c.fetch.new.self in
    let entry = c.in-Ok.entry in
    let journal = c.push_reserved.new.self.items in
    subst (λ (old : Controller). Fetches old.mail (mail_with new journal) c.args.m) c.self.view_is
    (Fetches-kept s.state.mail new.mail c.args.m entry s.journal.items journal c.in-Ok.ensures.mail
    (c.push_reserved.ensures.items ∙ ap (λ (es : List Entry). es ++ entry ∷ []) c.in_ok-reserve.ensures.items))

pub returns-in-Ok-clause-others : goal.returns-in-Ok-clause-others
returns-in-Ok-clause-others c =
    let s = c.self.inside in
    let new = c.fetch.new.self in
    let journal = c.push_reserved.new.self.items in
    subst (λ (old : Controller). kept new journal s.fuel s.failed ≡ record old { mail = mail_with new journal }) c.self.view_is
    (kept_others s.state new s.journal.items journal s.fuel s.failed c.in-Ok.ensures.others)
