use Rattle.std.proofs.Common.{◌∙◌, sym}
use Rattle.wiring_places.proofs.place_spans.RowSteps.{place_more, place_end}
use Rattle.wiring_places.proofs.place_spans.places.add_places.Goals as goal

pub loop-place-preserved : goal.loop-place-preserved
loop-place-preserved c = place_more c.args.slot c.args.port c.args.role c.loop-place.place c.args.count _ _ c.loop-place-test.true c.in_ok-push.ensures.items ∙ c.loop-place.invariant

pub returns : goal.returns
returns c = sym (place_end c.args.slot c.args.port c.args.role c.loop-place.place c.args.count _ c.loop-place-test.false) ∙ c.loop-place.invariant
