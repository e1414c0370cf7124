use Rattle.std.proofs.Common.{[], ap}
use Rattle.controller_mail.specs.Queues.{Queues}
use Rattle.controller_mail.proofs.Mails.{mail_of}
use Rattle.controller_actors.specs.Bodies.{body_of}
use Rattle.controller.proofs.Waits.{start_waits}
use Rattle.controller.proofs.controller_state.ControllerState.start.Goals as goal

pub returns-clause-waits : goal.returns-clause-waits
returns-clause-waits c =
    let plant = c.args.plant.now in
    let begun = c.in_ok-begun.begun in
    start_waits plant c.args.me.0 begun.sent [] (body_of plant c.args.me.0 begun.actors) (mail_of c.in_ok-mail.mail []) c.requires c.in_ok-begun.ensures.state
    (ap (λ (q : Queues). mail_of q []) c.in_ok-mail.ensures)
