use Rattle.std.proofs.Common.{arith}
use Rattle.std.specs.Prelude.{◌&&◌}
use Rattle.name_tables.specs.name_numbers.Names.{same}
use Rattle.chart_model.specs.Named.{has_none}
use Rattle.chart_reader.specs.chart_nodes.Steps.{StepTree, step_view}
use Rattle.chart_reader.specs.chart_rules.Index.{count_in}
use Rattle.chart_reader.proofs.chart_rules.Tables.{counted_all, counted_few, counted_next}
use Rattle.chart_reader.proofs.chart_rules.counts.count_plain_origins.Goals as goal

pub count_plain-requires : goal.count_plain-requires
count_plain-requires c =
    let key = (step_view c.step-item.result).origin in
    let few = counted_few (λ s. same (step_view s).origin key && has_none (step_view s).placed) c.args.steps.now c.loop-step.step-index (count_in c.loop-step.counts key) c.loop-step-test.true (c.loop-step.invariant key) in
    omega (arith, few)

pub loop-step-preserved : goal.loop-step-preserved
loop-step-preserved c = λ key.
    counted_next (λ s. same (step_view s).origin key && has_none (step_view s).placed) c.args.steps.now c.loop-step.step-index c.step-item.result (count_in c.loop-step.counts key) (count_in c.count_plain.new.counts key) c.loop-step-test.true c.step-item.is (c.loop-step.invariant key)
    (c.in_ok-count_plain.ensures key)

pub returns : goal.returns
returns c = λ key. counted_all (λ (s : StepTree). same s.origin key && has_none s.placed) step_view c.args.steps.now c.loop-step.step-index (count_in c.loop-step.counts key) c.loop-step-test.false (c.loop-step.invariant key)
