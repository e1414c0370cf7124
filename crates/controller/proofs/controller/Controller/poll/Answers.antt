use Rattle.std.proofs.Common.{length, ap, sym, subst}
use Rattle.mail_core.proofs.Tied.{StaysTied-refl}
use Rattle.controller_mail.specs.Within.{WaitsWithin}
use Rattle.controller.specs.View.{Controller}
use Rattle.controller.proofs.Doing.{same_actors, polls}
use Rattle.controller.proofs.Keeping.{of_mail, of_failed, on_err}
use Rattle.controller.proofs.Polling.{cut_off_at_once, cut_off_failed}
use Rattle.controller.proofs.Waits.{but_last}
use Rattle.controller.proofs.controller.Controller.poll.Goals as goal

pub returns-in_err-refuse_if_failed-clause-tied : goal.returns-in_err-refuse_if_failed-clause-tied
returns-in_err-refuse_if_failed-clause-tied g c = StaysTied-refl

pub returns-in-Ok-clause-ok : goal.returns-in-Ok-clause-ok
returns-in-Ok-clause-ok g c =
    let old = c.args.self.now in
    let new = c.poll_boxes.new.controller in
    let log = g.M.Mail.log in
    polls g.M.Mail.in_box (g.M.Mail.box_count (log c.args.end.now).party (log c.args.end.now).parties) c.args.plant.now old new (log c.args.end.now) (log c.poll_boxes.new.end) c.in-Ok.count
    (same_actors old new c.in-Ok.ensures.others c.in_ok-refuse_if_failed.ensures.works) c.requires.party c.in-Ok.ensures.ok

pub returns-in-Ok-clause-of : goal.returns-in-Ok-clause-of
returns-in-Ok-clause-of g c =
    let old = c.args.self.now in
    let new = c.poll_boxes.new.controller in
    let count = but_last (g.M.Mail.log c.args.end.now).parties (length c.args.plant.now.wiring.controllers) c.requires.parties in
    of_mail c.args.plant.now old new c.in-Ok.ensures.others c.requires.of
    (λ works. subst (λ n. WaitsWithin n new.mail) count (c.in-Ok.ensures.waits (subst (λ n. WaitsWithin n old.mail) (sym count) (c.requires.of.waits works))))

pub returns-in_err-refuse_if_failed-clause-cut_off : goal.returns-in_err-refuse_if_failed-clause-cut_off
returns-in_err-refuse_if_failed-clause-cut_off g c =
    on_err c.from_residual.result (cut_off_at_once c.args.self.now (g.M.Mail.log c.args.end.now))

pub returns-in-Err-clause-of : goal.returns-in-Err-clause-of
returns-in-Err-clause-of g c =
    of_failed c.args.plant.now c.args.self.now c.poll_boxes.new.controller c.fail.new.self (ap (λ (k : Controller). k.me) c.in-Err.ensures.others) c.fail.ensures c.requires.of

pub returns-in-Err-clause-cut_off : goal.returns-in-Err-clause-cut_off
returns-in-Err-clause-cut_off g c = cut_off_failed c.args.self.now c.poll_boxes.new.controller c.fail.new.self c.fail.ensures c.in-Err.ensures.err

pub returns-in-Err-clause-err : goal.returns-in-Err-clause-err
returns-in-Err-clause-err g c = ap (λ (k : Controller). k.failed) c.fail.ensures
