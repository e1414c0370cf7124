use Rattle.std.proofs.Common.{ℕ, List, subst, arith}
use Rattle.name_tables.specs.name_numbers.Names.{same}
use Rattle.chart_reader.specs.chart_nodes.Steps.{StepTree, step_view}
use Rattle.chart_reader.specs.chart_rules.Index.{CountsOneMore, count_in}
use Rattle.chart_reader.proofs.chart_rules.Tables.{counted_all, counted_few, counted_next}
use Rattle.chart_reader.proofs.chart_rules.counts.count_origins.Goals as goal

pub count_one-requires : goal.count_one-requires
count_one-requires c =
    let key = c.as_slice.result.now in
    let few = counted_few (λ s. same (step_view s).origin key) c.args.steps.now c.loop-step.step-index (count_in c.loop-step.counts key) c.loop-step-test.true (c.loop-step.invariant key) in
    omega (arith, few)

pub loop-step-preserved : goal.loop-step-preserved
loop-step-preserved c = λ key.
    counted_next (λ s. same (step_view s).origin key) c.args.steps.now c.loop-step.step-index c.step-item.result (count_in c.loop-step.counts key) (count_in c.count_one.new.counts key) c.loop-step-test.true c.step-item.is (c.loop-step.invariant key)
    (subst (λ (k : List ℕ). CountsOneMore (count_in c.loop-step.counts) (count_in c.count_one.new.counts) k) c.as_slice.ensures.value c.in_ok-count_one.ensures key)

pub returns : goal.returns
returns c = λ key. counted_all (λ (s : StepTree). same s.origin key) step_view c.args.steps.now c.loop-step.step-index (count_in c.loop-step.counts key) c.loop-step-test.false (c.loop-step.invariant key)
