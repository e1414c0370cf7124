use Rattle.std.proofs.Common.{◌∙◌, ℕ}
use Rattle.room_verify.specs.Shown.{controller_seen}
use Rattle.room_verify.specs.Showing.{actors_observer}
use Rattle.room_verify.specs.Worlds.{world_in}
use Rattle.room_verify.proofs.ViewLaw.{controller_there, seen_at, mapped_more}
use Rattle.room_verify.proofs.replay.Replay.view.Goals as goal

pub controller_view-requires : goal.controller_view-requires
controller_view-requires c =
    let there =
    controller_there c.args.self.now.controllers.items c.as_slice-state-items.result.now c.loop-state.state-index c.state-item.result c.as_slice-state-items.ensures.value
    c.loop-state-test.true c.state-item.is in
    (c.requires.each c.loop-state.state-index c.state-item.result there).of

pub loop-state-preserved : goal.loop-state-preserved
loop-state-preserved c =
    let plant = c.args.plant.now in
    let r = c.args.self.now in
    let there =
    controller_there r.controllers.items c.as_slice-state-items.result.now c.loop-state.state-index c.state-item.result c.as_slice-state-items.ensures.value
    c.loop-state-test.true c.state-item.is in
    c.in_ok-push.ensures.items
    ∙ mapped_more (λ (k : ℕ). controller_seen actors_observer plant.wiring k ((world_in plant r).controllers k)) c.loop-state.controllers.items c.loop-state.state-index
    c.in_ok-controller_view.field-0 c.loop-state.invariant
    (seen_at plant r c.requires c.loop-state.state-index c.state-item.result there c.in_ok-controller_view.field-0 c.in_ok-controller_view.ensures)
