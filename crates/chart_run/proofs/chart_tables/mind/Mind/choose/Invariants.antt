use Rattle.chart_run.specs.chart_tables.Tables.{arrow_view}
use Rattle.chart_run.specs.chart_tables.Minds.{arrow_holds}
use Rattle.chart_run.proofs.chart_tables.Trying.{Tried}
use Rattle.chart_run.proofs.chart_tables.mind.Mind.choose.Given as goal

abbrev pub invariant-loop-branch : goal.invariant-loop-branch
invariant-loop-branch l = Tried arrow_view (arrow_holds l.at) l.branches l.branch-index l.fn.self l.self
