use Rattle.std.proofs.Common.{◌∙◌, ◌^◌, sym}
use Rattle.wiring_places.proofs.place_pairs.BindingSteps.{binding_below, bindings_more, bindings_end}
use Rattle.wiring_places.proofs.place_pairs.bindings.add_binding_pairs.Goals as goal

pub add_stretch-requires-clause-faces : goal.add_stretch-requires-clause-faces
add_stretch-requires-clause-faces c =
    let all = c.requires.faces in (
      all.0,
      all.1,
      binding_below all.0 c.args.container.now.first_ports.now c.args.container.now.spans.now c.args.container.now.class.now c.args.container.now.number c.args.bindings.now c.args.stretches.now (2 ^ 32) c.loop-i.i _ _ c.requires.sizes c.loop-i-test.true all.2,
    )

pub loop-i-preserved : goal.loop-i-preserved
loop-i-preserved c = λ slots known. bindings_more slots _ _ _ _ c.args.bindings.now c.args.stretches.now c.loop-i.i _ _ _ _ c.requires.sizes c.loop-i-test.true (c.in_ok-add_stretch.ensures slots known) ∙ c.loop-i.invariant slots known

pub returns : goal.returns
returns c = λ slots known. sym (bindings_end slots _ _ _ _ c.args.bindings.now c.args.stretches.now c.loop-i.i _ c.loop-i-test.false) ∙ c.loop-i.invariant slots known
