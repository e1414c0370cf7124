use Rattle.derived_classes.specs.Views.{group_views, refining_views}
use Rattle.derived_classes.proofs.Groups.{all_grouped}
use Rattle.derived_classes.proofs.refining.grouped.Grouped.of.Goals as goal

pub returns-clause-grouped : goal.returns-clause-grouped
returns-clause-grouped c =
    let both = all_grouped _ _ c.in_ok-names-2.names (refining_views c.args.pending.now) (group_views c.in_ok-groups.groups.items) (group_views c.in_ok-groups-2.groups.items) c.in_ok-names-2.ensures c.in_ok-names.ensures c.as_slice.ensures.value c.in_ok-groups.ensures c.in_ok-groups-2.ensures in
    record { inside = both.0; actions = both.1 }
