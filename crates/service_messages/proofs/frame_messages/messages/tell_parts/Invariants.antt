use Rattle.std.proofs.Common.{◌≡◌, ◌++◌}
use Rattle.service_messages.proofs.frame_messages.Parts.{told_below}
use Rattle.service_messages.proofs.frame_messages.messages.tell_parts.Given as goal

abbrev pub invariant-loop-number : goal.invariant-loop-number
invariant-loop-number l = l.out ≡ l.initial.out ++ told_below l.site.wiring.now l.site.me.0 l.kind l.actor l.number
