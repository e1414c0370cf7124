use Rattle.std.proofs.Common.{◌-◌}
use Rattle.frame_service.proofs.frame_endings.Back.{GivingBack}
use Rattle.frame_service.proofs.frame_endings.messages.give_all_back.Given as goal

abbrev pub invariant-loop-part : goal.invariant-loop-part
invariant-loop-part g l = GivingBack l.site.wiring.now l.site.me.0 (g.I.Lent.places l.lent) l.actor l.end l.initial.out l.out l.part

abbrev pub decreases-loop-part : goal.decreases-loop-part
decreases-loop-part g l = l.end - l.part
