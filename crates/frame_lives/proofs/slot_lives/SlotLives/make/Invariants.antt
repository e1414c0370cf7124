use Rattle.std.proofs.Common.{◌-◌}
use Rattle.frame_lives.specs.Shown.{shown}
use Rattle.frame_lives.proofs.Making.{Making}
use Rattle.frame_lives.proofs.slot_lives.SlotLives.make.Given as goal

abbrev pub invariant-loop-next : goal.invariant-loop-next
invariant-loop-next l = Making l.site.wiring.now l.site.me.0 l.slot.0 l.end (shown l.initial.self) (shown l.self) l.initial.out l.out l.made l.next

abbrev pub decreases-loop-next : goal.decreases-loop-next
decreases-loop-next l = l.end - l.next
