use Rattle.std.proofs.Common.{take, Some}
use Rattle.chart_model.specs.chart_plan.Handling.{leave_all}
use Rattle.chart_model.specs.Acting.{acting}
use Rattle.chart_run.specs.chart_tables.Tables.{plan, up_at}
use Rattle.chart_run.specs.chart_tables.Minds.{Becomes, memory_of}
use Rattle.chart_run.proofs.chart_tables.mind.Mind.leave_all.Given as goal

abbrev pub invariant-loop-i : goal.invariant-loop-i
invariant-loop-i l = Becomes l.fn.self l.self (leave_all (plan l.tables) (acting l.at) (Some l.leaf) (take l.i (up_at l.tables l.leaf)) (memory_of l.fn.self))
