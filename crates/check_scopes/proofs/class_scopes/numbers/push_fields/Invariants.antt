use Rattle.std.proofs.Common.{◌≡◌, ◌≤◌, ◌++◌, length, drop, map, reverse}
use Rattle.check_scopes.specs.class_scopes.Fields.{field_view}
use Rattle.check_scopes.specs.class_scopes.Walks.{pending_view, pending_at}
use Rattle.check_scopes.proofs.class_scopes.numbers.push_fields.Given as goal

abbrev pub invariant-loop-left : goal.invariant-loop-left
invariant-loop-left l =
    (l.left ≤ length l.fields)
    × (reverse (map pending_view l.pending.items) ≡ map (pending_at l.depth l.before) (map field_view (drop l.left l.fields)) ++ reverse (map pending_view l.initial.pending.items))

abbrev pub decreases-loop-left : goal.decreases-loop-left
decreases-loop-left l = l.left
