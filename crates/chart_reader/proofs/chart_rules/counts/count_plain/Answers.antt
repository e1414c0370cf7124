use Rattle.std.proofs.Common.{ℕ, List, subst}
use Rattle.action_program.specs.Numbered.{expr_view}
use Rattle.chart_reader.specs.chart_nodes.Steps.{step_view}
use Rattle.chart_reader.specs.chart_rules.Index.{CountsOneMore, count_in}
use Rattle.chart_reader.proofs.chart_rules.Tables.{plain_counted, plain_passed}
use Rattle.chart_reader.proofs.chart_rules.counts.count_plain.Goals as goal

pub returns : goal.returns
returns c =
    plain_counted expr_view c.args.step.now.transition.now.condition c.is_some.result (count_in c.args.counts.now) (count_in c.count_one.new.counts) (step_view c.args.step.now).origin c.is_some.ensures c.if-is_some.false
    (subst (λ (k : List ℕ). CountsOneMore (count_in c.args.counts.now) (count_in c.count_one.new.counts) k) c.as_slice.ensures.value c.in_ok-count_one.ensures)

pub returns-then-is_some : goal.returns-then-is_some
returns-then-is_some c = plain_passed expr_view c.args.step.now.transition.now.condition c.is_some.result (count_in c.args.counts.now) (step_view c.args.step.now).origin c.is_some.ensures c.if-is_some.true
