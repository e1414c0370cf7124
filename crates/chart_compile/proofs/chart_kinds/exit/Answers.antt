use Rattle.std.proofs.Common.{Option, map, subst}
use Rattle.chart_reader.specs.chart_nodes.Steps.{step_view}
use Rattle.chart_compile.specs.chart_places.Groups.{picked}
use Rattle.chart_run.specs.declared.chart_tables.tables.Arrow.{Arrow}
use Rattle.chart_compile.specs.chart_parts.Nodes.{IsFirst}
use Rattle.chart_compile.proofs.chart_kinds.Lines.{exit_none, exit_some}
use Rattle.chart_compile.proofs.chart_kinds.exit.Goals as goal

pub returns-in-Some : goal.returns-in-Some
returns-in-Some c =
    let ss = picked (map step_view c.args.steps.now) c.args.group.now in
    exit_some c.args.nodes.now c.in-Some.arrow ss c.args.state (subst (λ (o : Option Arrow). IsFirst c.args.nodes.now o ss) c.in-Some.is c.in_ok-first.ensures)

pub returns-in-None : goal.returns-in-None
returns-in-None c =
    let ss = picked (map step_view c.args.steps.now) c.args.group.now in
    exit_none c.args.nodes.now ss c.args.state (subst (λ (o : Option Arrow). IsFirst c.args.nodes.now o ss) c.in-None.is c.in_ok-first.ensures)
