use Rattle.std.proofs.Common.{◌≡◌, length, map}
use Rattle.check_scopes.specs.class_scopes.Fields.{field_view}
use Rattle.check_scopes.specs.class_scopes.Walks.{walk_view, Falls, total, looks_left}
use Rattle.check_scopes.proofs.class_scopes.numbers.walk_all.Given as goal

abbrev pub invariant-loop-top : goal.invariant-loop-top
invariant-loop-top l =
    Falls (length (walk_view l.initial.walk).path) (walk_view l.initial.walk).pending
    → Falls (length (walk_view l.walk).path) (walk_view l.walk).pending × (total (map (map field_view) l.fields) (walk_view l.walk) ≡ total (map (map field_view) l.fields) (walk_view l.initial.walk))

abbrev pub decreases-loop-top : goal.decreases-loop-top
decreases-loop-top l = looks_left (map (map field_view) l.fields) (walk_view l.walk)
