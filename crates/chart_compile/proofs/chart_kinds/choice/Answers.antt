use Rattle.std.proofs.Common.{Option, map, subst}
use Rattle.std.specs.List.{filter}
use Rattle.chart_reader.specs.chart_nodes.Steps.{step_view}
use Rattle.chart_compile.specs.chart_places.Groups.{picked}
use Rattle.chart_run.specs.chart_tables.Tables.{arrow_views}
use Rattle.chart_run.specs.declared.chart_tables.tables.Arrow.{Arrow}
use Rattle.chart_compile.specs.chart_parts.Nodes.{IsFirst, has_none}
use Rattle.chart_compile.proofs.chart_kinds.Lines.{choice_some, some_first}
use Rattle.chart_compile.proofs.chart_kinds.choice.Goals as goal

pub unreachable-requires : goal.unreachable-requires
unreachable-requires c = some_first c.args.nodes.now c.in_ok-default.default (filter has_none (picked (map step_view c.args.steps.now) c.args.group.now)) c.in_ok-default.ensures c.in-None.is c.requires.default

pub returns : goal.returns
returns c =
    let ss = picked (map step_view c.args.steps.now) c.args.group.now in
    choice_some c.args.nodes.now (arrow_views c.in_ok-branches.branches.items) c.in-Some.default ss c.in_ok-branches.ensures (subst (λ (o : Option Arrow). IsFirst c.args.nodes.now o (filter has_none ss)) c.in-Some.is c.in_ok-default.ensures)
