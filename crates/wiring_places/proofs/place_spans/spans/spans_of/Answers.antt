use Rattle.std.proofs.Common.{◌∙◌, ◌+◌, ℕ, ap, arith, refl, sym}
use Rattle.std.specs.Prelude.{slice_index_or}
use Rattle.std.proofs.lemmas.List.Sums.{sum_by_more, sum_by_more_le}
use Rattle.wiring_places.proofs.place_spans.SpanSteps.{spans_more}
use Rattle.wiring_places.proofs.place_spans.spans.spans_of.Goals as goal

pub overflow_add-first : goal.overflow_add-first
overflow_add-first c =
    let within = sum_by_more_le (λ (k : ℕ). k) c.args.counts.now c.loop-count.count-index 0 c.loop-count-test.true in
    omega (arith, within, c.loop-count.invariant.0, c.requires)

pub loop-count-preserved : goal.loop-count-preserved
loop-count-preserved c =
    let ns = c.args.counts.now in
    let i = c.loop-count.count-index in (
      ap (λ n. n + slice_index_or ns i 0) c.loop-count.invariant.0 ∙ sym (sum_by_more (λ (k : ℕ). k) ns i 0 c.loop-count-test.true),
      spans_more c.loop-count.first i 0 _ ns _ _ c.loop-count-test.true refl c.in_ok-push.ensures.items ∙ c.loop-count.invariant.1,
    )
