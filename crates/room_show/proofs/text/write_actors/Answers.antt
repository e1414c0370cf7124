use Rattle.std.proofs.lemmas.Result.{err_from_is_err_and}
use Rattle.room_show.specs.Text.{actor_text, actors_text}
use Rattle.room_outside.proofs.line_text.Going.{going_begin, going_on, going_item, going_all, going_breaks}
use Rattle.room_show.proofs.text.write_actors.Goals as goal

pub loop-actor-init : goal.loop-actor-init
loop-actor-init g c = going_begin _ _

pub loop-actor-preserved : goal.loop-actor-preserved
loop-actor-preserved g c =
    going_on _ _ _ _ _ _ (going_item (actor_text c.args.wiring.now) _ _ _ _ _ c.actor-item.result c.loop-actor-test.true c.actor-item.is c.loop-actor.invariant) c.in_ok-write_actor.ensures

pub returns : goal.returns
unfolding actors_text
returns g c = going_all (actor_text c.args.wiring.now) _ _ _ _ _ c.loop-actor-test.false c.loop-actor.invariant

pub returns-in_err-write_actor : goal.returns-in_err-write_actor
unfolding actors_text
returns-in_err-write_actor g c =
    let p = err_from_is_err_and c.from_residual.result c.from_residual.ensures.1 in
    rw p.1 (going_breaks _ _ _ _ _ _ (going_item (actor_text c.args.wiring.now) _ _ _ _ _ c.actor-item.result c.loop-actor-test.true c.actor-item.is c.loop-actor.invariant) c.in_err-write_actor.ensures)
