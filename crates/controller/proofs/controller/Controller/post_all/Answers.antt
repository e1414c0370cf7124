use Rattle.std.proofs.Common.{◌-◌, length, ap, sym, subst}
use Rattle.mail_core.proofs.Tied.{StaysTied-refl}
use Rattle.controller_mail.specs.Within.{WaitsWithin}
use Rattle.controller.specs.View.{Controller}
use Rattle.controller.proofs.Doing.{same_actors, posts_all}
use Rattle.controller.proofs.Keeping.{of_mail, of_failed}
use Rattle.controller.proofs.Waits.{but_last}
use Rattle.controller.proofs.controller.Controller.post_all.Goals as goal

pub returns-in_err-refuse_if_failed-clause-tied : goal.returns-in_err-refuse_if_failed-clause-tied
returns-in_err-refuse_if_failed-clause-tied g c = StaysTied-refl

pub post_outbox-requires-clause-waits : goal.post_outbox-requires-clause-waits
post_outbox-requires-clause-waits g c =
    subst (λ n. WaitsWithin n c.args.self.now.mail) (sym (but_last (g.M.Mail.log c.args.end.now).parties (length c.args.plant.now.wiring.controllers) c.requires.parties))
    (c.requires.of.waits c.in_ok-refuse_if_failed.ensures.works)

pub returns-in-Ok-clause-ok : goal.returns-in-Ok-clause-ok
returns-in-Ok-clause-ok g c =
    let old = c.args.self.now in
    let new = c.post_outbox.new.controller in
    let log = g.M.Mail.log in
    posts_all c.args.plant.now old new (log c.args.end.now) (log c.post_outbox.new.end) ((log c.args.end.now).parties - 1) (same_actors old new c.in-Ok.ensures.others c.in_ok-refuse_if_failed.ensures.works)
    (but_last (log c.args.end.now).parties (length c.args.plant.now.wiring.controllers) c.requires.parties) c.in-Ok.ensures.ok c.in-Ok.ensures.empty

pub returns-in-Ok-clause-of : goal.returns-in-Ok-clause-of
returns-in-Ok-clause-of g c =
    let old = c.args.self.now in
    let new = c.post_outbox.new.controller in
    of_mail c.args.plant.now old new c.in-Ok.ensures.others c.requires.of
    (λ works. subst (λ n. WaitsWithin n new.mail) (but_last (g.M.Mail.log c.args.end.now).parties (length c.args.plant.now.wiring.controllers) c.requires.parties) c.in-Ok.ensures.waits)

pub returns-in-Err-clause-of : goal.returns-in-Err-clause-of
returns-in-Err-clause-of g c = of_failed c.args.plant.now c.args.self.now c.post_outbox.new.controller c.fail.new.self c.in-Err.ensures.me c.fail.ensures c.requires.of

pub returns-in-Err-clause-err : goal.returns-in-Err-clause-err
returns-in-Err-clause-err g c = ap (λ (k : Controller). k.failed) c.fail.ensures
