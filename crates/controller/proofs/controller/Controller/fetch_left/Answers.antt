use Rattle.std.proofs.Common.{length, ap}
use Rattle.controller.specs.View.{Controller}
use Rattle.controller.proofs.Doing.{same_actors, fetches_left}
use Rattle.controller.proofs.Keeping.{of_mail, of_failed}
use Rattle.controller.proofs.controller.Controller.fetch_left.Goals as goal

pub returns-in-Ok-clause-ok : goal.returns-in-Ok-clause-ok
returns-in-Ok-clause-ok c =
    let old = c.args.self.now in
    let new = c.fetch_all.new.controller in
    fetches_left c.args.plant.now old new c.args.left.items (same_actors old new c.in-Ok.ensures.others c.in_ok-refuse_if_failed.ensures.works) c.in-Ok.ensures.ok

pub returns-in-Ok-clause-of : goal.returns-in-Ok-clause-of
returns-in-Ok-clause-of c =
    let old = c.args.self.now in
    let new = c.fetch_all.new.controller in
    of_mail c.args.plant.now old new c.in-Ok.ensures.others c.requires.of
    (λ works. c.in-Ok.ensures.waits (length c.args.plant.now.wiring.controllers) c.requires.answerable (c.requires.of.waits works))

pub returns-in-Err-clause-of : goal.returns-in-Err-clause-of
returns-in-Err-clause-of c = of_failed c.args.plant.now c.args.self.now c.fetch_all.new.controller c.fail.new.self c.in-Err.ensures.me c.fail.ensures c.requires.of

pub returns-in-Err-clause-err : goal.returns-in-Err-clause-err
returns-in-Err-clause-err c = ap (λ (k : Controller). k.failed) c.fail.ensures
