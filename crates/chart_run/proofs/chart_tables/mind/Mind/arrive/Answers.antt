use Rattle.std.proofs.Common.{ℕ}
use Rattle.chart_run.specs.chart_tables.Tables.{arrow_view, arrow_views, kind}
use Rattle.chart_run.specs.chart_tables.Minds.{next_of}
use Rattle.chart_run.proofs.chart_tables.Chains.{enters_border, chooses}
use Rattle.chart_run.proofs.chart_tables.mind.Mind.arrive.Goals as goal

pub returns-in_ok-step-in-Border : goal.returns-in_ok-step-in-Border
returns-in_ok-step-in-Border c =
    rw c.in-Border.is
    (enters_border c.args.tables.now c.args.at.now c.args.began c.in-Border.state (arrow_view c.in-Border.initial) c.args.self.now c.enter-in-Border.new.self c.pass_border.new.self (next_of c.in_ok-step-in-Border.step) c.in_ok-enter-in-Border.ensures c.in_ok-step-in-Border.ensures)

pub returns-in_ok-branch-in-Choice : goal.returns-in_ok-branch-in-Choice
returns-in_ok-branch-in-Choice c =
    rw c.in-Choice.is
    (chooses c.args.tables.now c.args.at.now c.args.began (arrow_views c.in-Choice.branches.items) (arrow_view c.in-Choice.default) (arrow_view c.in_ok-branch-in-Choice.branch.now) c.args.self.now c.choose.new.self (rw (← c.deref.ensures.value) c.in_ok-branch-in-Choice.ensures))
