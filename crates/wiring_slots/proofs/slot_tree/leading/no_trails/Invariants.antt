use Rattle.std.proofs.Common.{◌≡◌, List, [], replicate}
use Rattle.wiring_slots.specs.declared.slot_tree.owners.Trail.{Trail}
use Rattle.wiring_slots.proofs.slot_tree.leading.no_trails.Given as goal

abbrev pub invariant-loop-i : goal.invariant-loop-i
invariant-loop-i l = l.lists.items ≡ replicate l._i (let none : List Trail = [] in none)
