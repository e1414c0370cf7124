use Rattle.std.proofs.Common.{◌≡◌, Result, Ok, Err, IfOk, OnErr, refl, ap}
use Rattle.room_kinds.specs.declared.message.Msg.{Msg}
use Rattle.journal.specs.declared.entry.Entry.{Entry}
use Rattle.actor_merge.specs.Parties.{fetch}
use Rattle.controller_mail.specs.Queues.{Queues, alone}
use Rattle.controller_actors.specs.Bodies.{body_of}
use Rattle.controller_actors.specs.declared.plant.Plant.{Plant}
use Rattle.controller.specs.Controllers.{run_plant}
use Rattle.controller.specs.States.{Makes}
use Rattle.controller.specs.declared.controller_state.ControllerState.{ControllerState}
use Rattle.controller.proofs.Making.{fetch_made}
use Rattle.controller.proofs.controller_state.ControllerState.fetch.Goals as goal

made : {E : Type 0} (s : ControllerState) (new : Queues) (m : Msg) (r : Result Entry E) → IfOk r (λ e. fetch (alone s.mail) m ≡ (alone new, e))
    → IfOk r (λ e. (plant : Plant) → Makes plant s (record s { mail = new }) e)
made s new m (Ok e) is = λ plant. record {
  me = refl;
  does = λ lines. fetch_made (run_plant plant lines) s.me.0 s.mail new m e (body_of plant s.me.0 s.actors) is;
}
made s new m (Err x) is = tt

same : {T E : Type 0} (s : ControllerState) (new : Queues) (r : Result T E) → OnErr r (new ≡ s.mail) → OnErr r (record s { mail = new } ≡ s)
same s new (Ok x) is = tt
same s new (Err x) is = ap (λ (q : Queues). record s { mail = q }) is

pub returns-clause-ok : goal.returns-clause-ok
returns-clause-ok c = made c.args.self.now c.fetch.new.self c.args.m c.fetch.result c.fetch.ensures.ok

pub returns-clause-err : goal.returns-clause-err
returns-clause-err c = same c.args.self.now c.fetch.new.self c.fetch.result c.fetch.ensures.err

pub returns-clause-of : goal.returns-clause-of
returns-clause-of c = λ plant of. record { me = of.me; well = of.well }
