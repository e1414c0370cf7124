use Rattle.std.proofs.Common.{◌≡◌, All, sym, ap, ◌∙◌, []}
use Rattle.std.proofs.lemmas.Result.{IfOk-weaker}
use Rattle.room_kinds.specs.declared.numbers.Incarnation.{Incarnation}
use Rattle.journal.specs.declared.entry.Did.TheVariants as did
use Rattle.actor_world.specs.Turns.{dispatch}
use Rattle.controller_mail.specs.MailState.{IsForActors, with_body}
use Rattle.controller_mail.specs.declared.mail_queues.TurnResult.{TurnResult}
use Rattle.controller_actors.specs.Plants.{model_of}
use Rattle.controller_actors.specs.Bodies.{IsWell, body_of, done_of}
use Rattle.controller_actors.specs.Steps.{Dispatches}
use Rattle.controller_actors.proofs.Turning.{sends_nobody, sends_stale, sends_handled}
use Rattle.controller_actors.proofs.actors.Actors.dispatch.Goals as goal

pub returns-in_default-clause-treated : goal.returns-in_default-clause-treated
returns-in_default-clause-treated c =
    sends_nobody c.args.plant.now c.args.me.0 c.args.m c.args.self.now c.nobody_there.result c.in_default.ensures
    (c.nobody_there.ensures ∙ ap (λ (x : Incarnation). record { sent = []; back = []; did = did.Empty x; notes = [] }) c.whose.ensures)

pub returns-then-not-is_meant-clause-treated : goal.returns-then-not-is_meant-clause-treated
returns-then-not-is_meant-clause-treated c =
    let found = c.in-Some.ensures in
    sends_stale c.args.plant.now c.args.me.0 c.args.m c.args.self.now c.in-Some.who found.0 found.1 found.2 c.discarded.result
    (sym c.is_meant.ensures ∙ c.if-not-is_meant.true)
    (c.discarded.ensures ∙ ap (λ (x : Incarnation). record { sent = []; back = []; did = did.Stale x; notes = [] }) c.whose-target.ensures)

pub returns-clause-treated : goal.returns-clause-treated
returns-clause-treated c =
    let p = c.args.plant.now in
    let me = c.args.me.0 in
    let m = c.args.m in
    let found = c.in-Some.ensures in
    let old = c.args.self.now in
    let new = c.handle.new.self in
    IfOk-weaker c.handle.result (Dispatches p me m old new)
    (λ (done : TurnResult). dispatch (model_of p) p.wiring me (body_of p me old) m ≡ with_body (done_of done) (body_of p me new))
    (λ done d. sends_handled p me m old c.in-Some.who found.0 found.1 found.2 new done (sym c.is_meant.ensures ∙ c.if-not-is_meant.false) d)
    c.handle.ensures

pub returns-clause-well : goal.returns-clause-well
returns-clause-well c =
    let p = c.args.plant.now in
    IfOk-weaker c.handle.result (Dispatches p c.args.me.0 c.args.m c.args.self.now c.handle.new.self) (λ _. IsWell p c.args.me.0 c.handle.new.self) (λ done d. d.well) c.handle.ensures

pub returns-clause-back : goal.returns-clause-back
returns-clause-back c =
    IfOk-weaker c.handle.result (Dispatches c.args.plant.now c.args.me.0 c.args.m c.args.self.now c.handle.new.self) (λ (done : TurnResult). All IsForActors done.back) (λ done d. d.back) c.handle.ensures
