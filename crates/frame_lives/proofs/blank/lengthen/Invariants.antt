use Rattle.std.proofs.Common.{◌≡◌, ℕ, length, ◌+◌, ◌-◌, get_or}
use Rattle.frame_lives.proofs.blank.lengthen.Given as goal

abbrev pub invariant-loop-alloc : goal.invariant-loop-alloc
invariant-loop-alloc g l = (i : ℕ) → get_or l.items.items i g.T.Blank.no_item ≡ get_or l.initial.items.items i g.T.Blank.no_item

abbrev pub decreases-loop-alloc : goal.decreases-loop-alloc
decreases-loop-alloc g l = l.place + 1 - length l.items.items
