use Rattle.std.proofs.Common.{◌∙◌, ◌^◌, sym}
use Rattle.wiring_places.proofs.place_pairs.BindingSteps.{pair_below, stretch_more, stretch_end}
use Rattle.wiring_places.proofs.place_pairs.bindings.add_stretch.Goals as goal

pub pair_at-requires-clause-faces : goal.pair_at-requires-clause-faces
pair_at-requires-clause-faces c =
    let all = c.requires.faces in (
      all.0,
      all.1,
      pair_below all.0 c.args.container.now.first_ports.now c.args.container.now.spans.now c.args.container.now.class.now c.args.container.now.number c.args.binding c.args.stretch (2 ^ 32) c.loop-k.k c.args.stretch.count c.loop-k-test.true all.2,
    )

pub loop-k-preserved : goal.loop-k-preserved
loop-k-preserved c = λ slots known. stretch_more slots _ _ _ _ _ _ c.loop-k.k _ _ _ _ c.loop-k-test.true (c.pair_at.ensures slots known) c.in_ok-push.ensures.items ∙ c.loop-k.invariant slots known

pub returns : goal.returns
returns c = λ slots known. sym (stretch_end slots _ _ _ _ _ _ c.loop-k.k _ _ c.loop-k-test.false) ∙ c.loop-k.invariant slots known
