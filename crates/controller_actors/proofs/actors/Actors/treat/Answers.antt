use Rattle.std.proofs.Common.{◌≡◌, ◌∙◌}
use Rattle.std.proofs.lemmas.Bool.{ne_eqb}
use Rattle.std.proofs.lemmas.Result.{IfOk-weaker}
use Rattle.actor_world.specs.Turns.{dispatch, treat}
use Rattle.controller_mail.specs.MailState.{with_body}
use Rattle.controller_mail.specs.declared.mail_queues.TurnResult.{TurnResult}
use Rattle.controller_actors.specs.Plants.{model_of}
use Rattle.controller_actors.specs.Bodies.{body_of, done_of}
use Rattle.controller_actors.proofs.Turning.{treat_dispatch}
use Rattle.controller_actors.proofs.actors.Actors.treat.Goals as goal

pub returns-clause-treated : goal.returns-clause-treated
returns-clause-treated c =
    let p = c.args.plant.now in
    let me = c.args.me.0 in
    let m = c.args.m in
    let old = body_of p me c.args.self.now in
    let new = body_of p me c.dispatch.new.self in
    IfOk-weaker c.dispatch.result
    (λ (done : TurnResult). dispatch (model_of p) p.wiring me old m ≡ with_body (done_of done) new)
    (λ (done : TurnResult). treat (model_of p) p.wiring me old m ≡ with_body (done_of done) new)
    (λ done is. treat_dispatch (model_of p) p.wiring me old m (ne_eqb m.prio.0 0 c.if-m-eq0.false) ∙ is)
    c.dispatch.ensures.treated
