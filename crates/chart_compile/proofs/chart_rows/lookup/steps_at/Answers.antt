use Rattle.chart_compile.proofs.chart_rows.Lines.{group_found, group_there}
use Rattle.chart_compile.proofs.chart_rows.lookup.steps_at.Goals as goal

pub returns : goal.returns
returns c =
    λ steps grouped. group_found c.args.places.now c.args.groups.now c.args.key.now c.find_group-found.result c.in-Some.group c.as_slice.result.now steps c.find_group-found.ensures c.in-Some.is c.as_slice.ensures grouped

pub unreachable-requires : goal.unreachable-requires
unreachable-requires c =
    group_there c.args.places.now c.args.groups.now c.args.key.now c.find_group-found.result c.requires.grouped.0 c.find_group-found.ensures c.in-None.is c.requires.grouped.1 c.requires.known
