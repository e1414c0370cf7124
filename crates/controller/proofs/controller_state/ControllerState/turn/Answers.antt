use Rattle.std.proofs.Common.{[], ◌∷◌, refl}
use Rattle.controller_actors.specs.Bodies.{body_of, done_of}
use Rattle.controller.specs.Controllers.{run_plant}
use Rattle.controller.proofs.Making.{turn_made}
use Rattle.controller_mail.proofs.Mails.{mail_of, TakesNext-kept, EndsTurn-kept}
use Rattle.controller.proofs.Keeping.{turn_is, turn_counted}
use Rattle.controller.proofs.Waits.{back_ranks, turn_waits}
use Rattle.controller.proofs.controller_state.ControllerState.turn.Goals as goal

pub end_turn-requires : goal.end_turn-requires
end_turn-requires c = back_ranks _ c.in-Ok.ensures.back

pub returns-in-Ok-end_turn-clause-ok : goal.returns-in-Ok-end_turn-clause-ok
returns-in-Ok-end_turn-clause-ok c =
    let s = c.args.self.now in
    let plant = c.args.plant.now in
    record {
      me = refl;
      does = λ lines.
          turn_made (run_plant plant lines) s.me.0 s.mail c.take_next.new.self c.end_turn.new.self c.in-Some.m (done_of c.in-Ok.done) c.in-Ok-end_turn.entry
          (body_of plant s.me.0 s.actors) (body_of plant s.me.0 c.treat.new.self) c.requires.outbox c.in-Some.ensures c.in-Ok-end_turn.ensures c.in-Ok.ensures.treated;
    }

pub returns-in-Ok-end_turn-clause-of : goal.returns-in-Ok-end_turn-clause-of
returns-in-Ok-end_turn-clause-of c = record { me = c.requires.of.me; well = c.in-Ok.ensures.well }

pub returns-in-Ok-end_turn-clause-turn : goal.returns-in-Ok-end_turn-clause-turn
returns-in-Ok-end_turn-clause-turn c =
    let s = c.args.self.now in
    let plant = c.args.plant.now in
    let done = done_of c.in-Ok.done in
    let m = c.in-Some.m in
    let ends = EndsTurn-kept c.take_next.new.self c.end_turn.new.self m.from m.stamp done c.in-Ok-end_turn.entry [] (c.in-Ok-end_turn.entry ∷ []) c.in-Ok-end_turn.ensures refl in
    let waits = turn_waits plant s.me.0 (mail_of s.mail []) (mail_of c.take_next.new.self []) (mail_of c.end_turn.new.self (c.in-Ok-end_turn.entry ∷ [])) m done
    (body_of plant s.me.0 s.actors) (body_of plant s.me.0 c.treat.new.self) c.requires.of.me (TakesNext-kept s.mail c.take_next.new.self m [] c.in-Some.ensures) ends
    c.in-Ok.ensures.treated c.in-Ok.ensures.back in
    record {
      is = turn_is c.take_next.new.self c.end_turn.new.self m done c.in-Ok-end_turn.entry c.in-Ok-end_turn.ensures;
      counted = turn_counted s.mail c.take_next.new.self c.end_turn.new.self m done c.in-Ok-end_turn.entry c.in-Some.ensures c.in-Ok-end_turn.ensures;
      waits = λ before. let after = waits before in record { system = after.system; outbox = after.outbox };
    }
