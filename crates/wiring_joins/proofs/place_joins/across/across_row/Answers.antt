use Rattle.std.proofs.Common.{◌∙◌, arith, refl, sym}
use Rattle.wiring_joins.proofs.place_joins.PlaceSteps.{across_more, across_end}
use Rattle.wiring_joins.proofs.place_joins.across.across_row.Goals as goal

pub loop-place-preserved : goal.loop-place-preserved
loop-place-preserved c = (
  omega (arith, c.loop-place.invariant.0),
  across_more c.args.places.now c.loop-place.place-index _ c.loop-place.face _ _ _ _ _ _ _ c.loop-place-test.true refl c.across_face-outside.ensures c.across_face-inside.ensures refl c.in_ok-push.ensures.items c.in_ok-push-2.ensures.items ∙ c.loop-place.invariant.1,
)

pub returns : goal.returns
returns c = sym (across_end c.args.places.now c.loop-place.place-index _ _ c.loop-place-test.false) ∙ c.loop-place.invariant.1
