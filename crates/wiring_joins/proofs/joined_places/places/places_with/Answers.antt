use Rattle.std.proofs.Common.{◌∙◌, ap, arith, length, refl, sum}
use Rattle.wiring_places.specs.place_rules.Counts.{counts}
use Rattle.wiring_joins.proofs.joined_places.Counted.{places_counted}
use Rattle.wiring_joins.proofs.joined_places.Made.{counts_made, spans_made, places_made, pairs_made, faces_fit, partners_made}
use Rattle.wiring_joins.proofs.joined_places.places.places_with.Goals as goal

pub returns : goal.returns
returns c =
    let plan = c.args.plan.now in
    let slots = c.args.slots.now in
    let counts_are = counts_made plan slots c.as_slice.result.now c.in_ok-counts.counts.items (c.as_slice.ensures.value ∙ c.in_ok-joins.ensures) c.in_ok-counts.ensures in
    let spans_are = spans_made plan slots c.as_slice-2.result.now c.in_ok-spans.spans.items (c.as_slice-2.ensures.value ∙ counts_are) c.in_ok-spans.ensures in
    let places_are = places_made plan slots c.as_slice-3.result.now c.in_ok-places.places.items (c.as_slice-3.ensures.value ∙ counts_are) c.in_ok-places.ensures in
    let pairs_are =
    pairs_made plan slots c.as_slice-4.result.now c.as_slice-5.result.now c.as_slice-6.result.now c.in_ok-pairs.pairs.items (c.as_slice-4.ensures.value ∙ c.in_ok-joins.ensures) (c.as_slice-5.ensures.value ∙ c.in_ok-first_ports.ensures) (c.as_slice-6.ensures.value ∙ spans_are)
    c.in_ok-pairs.ensures in
    let partners_are = partners_made plan slots c.as_slice-7.result.now c.as_slice-8.result.now c.in_ok-partners.partners.items (c.as_slice-7.ensures.value ∙ places_are) (c.as_slice-8.ensures.value ∙ pairs_are) c.in_ok-partners.ensures in
    record {
      pairing = c.requires.containers.pairing;
      first_ports = c.from.ensures ∙ c.in_ok-first_ports.ensures;
      spans = c.from-2.ensures ∙ spans_are;
      places = places_are;
      partners = c.from-3.ensures ∙ partners_are;
    }

pub counts_of-requires-clause-places : goal.counts_of-requires-clause-places
counts_of-requires-clause-places c =
    let plan = c.args.plan.now in
    let slots = c.args.slots.now in
    let counts_are = counts_made plan slots c.as_slice.result.now (counts plan slots c.as_slice.result.now) (c.as_slice.ensures.value ∙ c.in_ok-joins.ensures) refl in
    omega (arith, ap sum counts_are, c.requires.places.few)

pub spans_of-requires : goal.spans_of-requires
spans_of-requires c =
    let plan = c.args.plan.now in
    let slots = c.args.slots.now in
    let counts_are = counts_made plan slots c.as_slice.result.now c.in_ok-counts.counts.items (c.as_slice.ensures.value ∙ c.in_ok-joins.ensures) c.in_ok-counts.ensures in
    omega (arith, ap sum (c.as_slice-2.ensures.value ∙ counts_are), c.requires.places.few)

pub all_pairs-requires-clause-faces : goal.all_pairs-requires-clause-faces
all_pairs-requires-clause-faces c =
    let plan = c.args.plan.now in
    let slots = c.args.slots.now in
    let counts_are = counts_made plan slots c.as_slice.result.now c.in_ok-counts.counts.items (c.as_slice.ensures.value ∙ c.in_ok-joins.ensures) c.in_ok-counts.ensures in
    let spans_are = spans_made plan slots c.as_slice-2.result.now c.in_ok-spans.spans.items (c.as_slice-2.ensures.value ∙ counts_are) c.in_ok-spans.ensures in
    faces_fit plan slots _ _ _ (c.as_slice-4.ensures.value ∙ c.in_ok-joins.ensures) (c.as_slice-5.ensures.value ∙ c.in_ok-first_ports.ensures) (c.as_slice-6.ensures.value ∙ spans_are) c.requires.places

pub partners_by-requires : goal.partners_by-requires
partners_by-requires c =
    let plan = c.args.plan.now in
    let slots = c.args.slots.now in
    let counts_are = counts_made plan slots c.as_slice.result.now c.in_ok-counts.counts.items (c.as_slice.ensures.value ∙ c.in_ok-joins.ensures) c.in_ok-counts.ensures in
    let places_are = places_made plan slots c.as_slice-3.result.now c.in_ok-places.places.items (c.as_slice-3.ensures.value ∙ counts_are) c.in_ok-places.ensures in
    let many = ap length (c.as_slice-7.ensures.value ∙ places_are) ∙ places_counted plan slots in
    omega (arith, many, c.requires.places.few)
