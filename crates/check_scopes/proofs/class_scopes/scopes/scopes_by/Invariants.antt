use Rattle.std.proofs.Common.{◌≡◌, ◌++◌, true, length, map}
use Rattle.std.specs.List.{list_all}
use Rattle.check_mappings.specs.count_rules.Counts.{references_are_few}
use Rattle.check_scopes.specs.class_scopes.Making.{tables_view, scopes_by, actor_views, numbers_few, entries_few}
use Rattle.check_scopes.specs.class_scopes.Views.{scope_view}
use Rattle.check_scopes.proofs.class_scopes.scopes.scopes_by.Given as goal

abbrev pub invariant-loop-classes : goal.invariant-loop-classes
invariant-loop-classes l =
    (map scope_view l.scopes.items ++ scopes_by l.names (tables_view l.tables) (actor_views l.classes) l.containers ≡ scopes_by l.names (tables_view l.tables) (actor_views l.fn.classes) l.fn.containers)
    × (list_all (numbers_few l.names (tables_view l.tables)) (actor_views l.classes) ≡ true)
    × (list_all entries_few l.containers ≡ true)
    × (list_all references_are_few (actor_views l.classes) ≡ true)

abbrev pub decreases-loop-classes : goal.decreases-loop-classes
decreases-loop-classes l = length l.classes
