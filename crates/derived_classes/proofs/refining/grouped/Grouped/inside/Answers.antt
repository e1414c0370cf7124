use Rattle.derived_classes.proofs.Groups.{name_found, inside_found}
use Rattle.derived_classes.proofs.refining.grouped.Grouped.inside.Goals as goal

pub returns-clause-same : goal.returns-clause-same
returns-clause-same c =
    name_found _ c.args.self.now.names _ c.place_of.result c.in-Some.place c.in-Some-get-2.first.now c.names.ensures c.place_of.ensures c.in-Some.is c.in-Some-get-2.ensures.lookup.1 c.in-Some-get-2.ensures.lookup.3.0

pub returns-clause-inside : goal.returns-clause-inside
returns-clause-inside c =
    inside_found c.args.self.now _ c.place_of.result c.in-Some.place _ c.in-Some-get.group.now _ c.requires c.deref.ensures.value c.place_of.ensures c.in-Some.is c.in-Some-get.ensures.lookup.1 c.in-Some-get.ensures.lookup.3.0 c.as_slice.ensures.value
