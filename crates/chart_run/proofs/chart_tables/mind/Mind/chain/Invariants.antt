use Rattle.chart_run.specs.chart_tables.Tables.{arrow_view}
use Rattle.chart_run.proofs.chart_tables.Chains.{Going}
use Rattle.chart_run.proofs.chart_tables.mind.Mind.chain.Given as goal

abbrev pub invariant-loop-self : goal.invariant-loop-self
invariant-loop-self l = Going l.tables l.at l.began (arrow_view l.first) (arrow_view l.arrow) l.fn.self l.self

abbrev pub decreases-loop-self : goal.decreases-loop-self
decreases-loop-self l = l.arrow.target
