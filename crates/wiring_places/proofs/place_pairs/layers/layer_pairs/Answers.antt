use Rattle.std.proofs.Common.{◌∙◌, ◌^◌, ap, arith, sym, take}
use Rattle.wiring_places.specs.declared.place_rules.place.LayerJoin.{LayerJoin}
use Rattle.wiring_places.specs.place_rules.Counts.{served_at}
use Rattle.wiring_places.proofs.place_spans.CountSteps.{served_few, served_more}
use Rattle.wiring_places.proofs.place_pairs.LayerSteps.{layer_below, layer_pairs_more, layer_pairs_end}
use Rattle.wiring_places.proofs.place_pairs.layers.layer_pairs.Goals as goal

abbrev no_join : LayerJoin
no_join = record { sap_slot = 0; sap = 0; spp_slot = 0; spp = 0 }

pub outer_face-left-requires : goal.outer_face-left-requires
outer_face-left-requires c =
    let below = layer_below c.args.first_ports.now c.args.spans.now c.args.joins.now c.loop-join.join-index (2 ^ 32) no_join c.loop-join-test.true c.loop-join.invariant.below in
    omega (arith, below.0)

pub outer_face-right-requires : goal.outer_face-right-requires
outer_face-right-requires c =
    let below = layer_below c.args.first_ports.now c.args.spans.now c.args.joins.now c.loop-join.join-index (2 ^ 32) no_join c.loop-join-test.true c.loop-join.invariant.below in
    let place = c.at-place.ensures ∙ c.loop-join.invariant.before c.service_key-key.result ∙ ap (served_at (take c.loop-join.join-index c.args.joins.now)) c.service_key-key.ensures in
    omega (arith, below.1, place)

pub take-requires : goal.take-requires
take-requires c =
    let few = served_few c.args.joins.now c.loop-join.join-index c.service_key-key.result _ c.loop-join.auto.join-index-end (c.loop-join.invariant.before c.service_key-key.result) in
    omega (arith, few, c.loop-join-test.true)

pub loop-join-preserved : goal.loop-join-preserved
loop-join-preserved c = record {
  pairs =
      layer_pairs_more c.args.first_ports.now c.args.spans.now c.args.joins.now c.loop-join.join-index _ _ _ _ _ _ _ c.loop-join-test.true c.service_key-key.ensures (c.at-place.ensures ∙ c.loop-join.invariant.before c.service_key-key.result) c.outer_face-left.ensures c.outer_face-right.ensures
      c.in_ok-push.ensures.items ∙ c.loop-join.invariant.pairs;
  below = (layer_below c.args.first_ports.now c.args.spans.now c.args.joins.now c.loop-join.join-index (2 ^ 32) no_join c.loop-join-test.true c.loop-join.invariant.below).2;
  before = λ key. served_more _ _ key _ _ _ _ c.loop-join-test.true c.service_key-key.ensures (c.loop-join.invariant.before key) (c.in_ok-take.ensures key);
}

pub returns : goal.returns
returns c = sym (layer_pairs_end c.args.first_ports.now c.args.spans.now c.args.joins.now c.loop-join.join-index _ c.loop-join-test.false) ∙ c.loop-join.invariant.pairs
