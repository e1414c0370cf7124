use Rattle.room_verify.specs.Shown.{slot_seen}
use Rattle.room_verify.specs.Showing.{actors_observer, body_at}
use Rattle.std.proofs.Common.{[]}
use Rattle.room_verify.proofs.ViewLaw.{added_more}
use Rattle.room_verify.proofs.view.Look.actors.Goals as goal

pub loop-number-preserved : goal.loop-number-preserved
loop-number-preserved c =
    let v = c.args.self.now in
    added_more (slot_seen actors_observer v.plant.now.wiring v.me.0 (body_at v)) [] c.loop-number.actors.items c.add_actor.new.actors.items c.loop-number.number
    c.loop-number.invariant c.in_ok-add_actor.ensures
