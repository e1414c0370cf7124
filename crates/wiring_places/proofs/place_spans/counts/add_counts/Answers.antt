use Rattle.std.proofs.Common.{◌∙◌, ◌∷◌, ◌++◌, ◌^◌, [], ℕ, ap, arith}
use Rattle.wiring_places.proofs.place_spans.CountSteps.{counts_few, counts_more}
use Rattle.wiring_places.proofs.place_spans.counts.add_counts.Goals as goal

pub overflow_cast-port_count : goal.overflow_cast-port_count
overflow_cast-port_count c =
    let few = counts_few _ _ _ _ _ _ c.args.ports.now c.loop-p.p (2 ^ 32) c.port_count.result _ c.loop-p-test.true c.port_count.ensures c.loop-p.invariant.few in
    omega (arith, few.0)

pub loop-p-preserved : goal.loop-p-preserved
loop-p-preserved c = record {
  few = (counts_few _ _ _ _ _ _ c.args.ports.now c.loop-p.p (2 ^ 32) c.port_count.result _ c.loop-p-test.true c.port_count.ensures c.loop-p.invariant.few).1;
  counts = counts_more _ _ _ _ _ _ c.args.ports.now c.loop-p.p _ c.loop-p.counts.items _ c.loop-p-test.true (c.in_ok-push.ensures.items ∙ ap (λ (n : ℕ). c.loop-p.counts.items ++ n ∷ []) c.port_count.ensures) ∙ c.loop-p.invariant.counts;
}
