use Rattle.std.proofs.Common.{List, ◌-◌}
use Rattle.wiring_slots.specs.declared.slot_tree.owners.Trail.{Trail}
use Rattle.wiring_slots.specs.slot_tree.Runs.{trails_between, trails_of}
use Rattle.wiring_slots.specs.slot_tree.Leading.{SortsByIndex}
use Rattle.wiring_slots.proofs.slot_tree.leading.sort_by_index.Given as goal

-- what sorts the rest of the run sorts the whole
abbrev pub invariant-loop-first : goal.invariant-loop-first
invariant-loop-first l =
    (new : List (List Trail)) → SortsByIndex l.mappings l.reference (trails_between l.run.steps l.first l.run.end) l.lists.items new → SortsByIndex l.mappings l.reference (trails_of l.run) l.fn.lists.items new

abbrev pub decreases-loop-first : goal.decreases-loop-first
decreases-loop-first l = l.run.end - l.first
