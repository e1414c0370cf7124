use Rattle.std.proofs.Common.{◌∙◌, arith, refl, sym}
use Rattle.wiring_joins.proofs.place_joins.PlaceSteps.{partners_more, partners_end}
use Rattle.wiring_joins.proofs.place_joins.partners.partner_row.Goals as goal

pub loop-place-preserved : goal.loop-place-preserved
loop-place-preserved c = (
  omega (arith, c.loop-place.invariant.0),
  partners_more c.args.places.now c.args.far.now c.args.places.now c.loop-place.place-index _ c.loop-place.face _ _ _ _ c.loop-place-test.true c.partner_at_end.ensures refl c.in_ok-push.ensures.items ∙ c.loop-place.invariant.1,
)

pub returns : goal.returns
returns c = sym (partners_end c.args.places.now c.args.far.now c.args.places.now c.loop-place.place-index _ _ c.loop-place-test.false) ∙ c.loop-place.invariant.1
