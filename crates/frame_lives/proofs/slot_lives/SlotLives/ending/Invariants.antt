use Rattle.std.proofs.Common.{◌-◌}
use Rattle.frame_lives.specs.Shown.{shown}
use Rattle.frame_lives.proofs.EndSteps.{Ending}
use Rattle.frame_lives.proofs.slot_lives.SlotLives.ending.Given as goal

abbrev pub invariant-loop-next : goal.invariant-loop-next
invariant-loop-next l = Ending l.site.wiring.now l.site.me.0 (shown l.self).lives l.fn.slot.0 l.end l.ending l.next

abbrev pub decreases-loop-next : goal.decreases-loop-next
decreases-loop-next l = l.end - l.next
