use Rattle.room_verify.specs.Shown.{place_seen}
use Rattle.room_verify.specs.Showing.{body_at}
use Rattle.std.proofs.Common.{[]}
use Rattle.room_verify.proofs.ViewLaw.{added_more}
use Rattle.room_verify.proofs.view.Look.places.Goals as goal

pub loop-number-preserved : goal.loop-number-preserved
loop-number-preserved c =
    let v = c.args.self.now in
    added_more (place_seen v.plant.now.wiring (body_at v).frame) [] c.loop-number.places.items c.add_place.new.places.items c.loop-number.number
    c.loop-number.invariant c.in_ok-add_place.ensures
