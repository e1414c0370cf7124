use Rattle.std.proofs.Common.{ℕ, ◌<◌, length, ◌∙◌, arith}
use Rattle.std.proofs.lemmas.List.{length-set}
use Rattle.controller.specs.Controllers.{IsOf}
use Rattle.controller.specs.View.{Controller}
use Rattle.model_run.specs.joined_round.Joined.{TurnedAt, LastTurn}
use Rattle.model_run.proofs.joined_round.JoinLaw.{stood, change_step}
use Rattle.model_run.proofs.joined_round.joined.turn_all.Goals as goal

pub last_turn-requires : goal.last_turn-requires
last_turn-requires c =
    let inside : c.loop-i.i < length c.loop-i.controllers.items = omega arith in
    record {
      ready = c.requires.ready c.loop-i.i c.index_mut.result.now
          (stood (TurnedAt c.args.plant.now) c.args.controllers.now.items c.loop-i.controllers.items c.loop-i.i c.index_mut.result.now c.loop-i.invariant.steps c.index_mut.ensures.value inside);
    }

pub loop-i-preserved : goal.loop-i-preserved
loop-i-preserved c =
    let inside : c.loop-i.i < length c.loop-i.controllers.items = omega arith in
    record {
      steps = change_step (λ (i : ℕ) (k : Controller) (k' : Controller). LastTurn c.args.plant.now k k' × IsOf c.args.plant.now k')
          c.args.controllers.now.items c.loop-i.controllers.items c.loop-i.i c.index_mut.result.now c.last_turn.new.controller
          c.loop-i.invariant.steps c.index_mut.ensures.value inside (c.in_ok-last_turn.ensures.ok, c.last_turn.ensures.of);
      count = length-set c.loop-i.controllers.items c.loop-i.i c.last_turn.new.controller ∙ c.loop-i.invariant.count;
      end = c.loop-i.invariant.end;
    }
