use Rattle.std.proofs.Common.{◌≡◌, ◌++◌, pos}
use Rattle.service_messages.proofs.frame_messages.Announced.{announced_to}
use Rattle.service_messages.proofs.frame_messages.messages.announce.Given as goal

abbrev pub invariant-loop-number : goal.invariant-loop-number
invariant-loop-number l = l.out ≡ l.initial.out ++ announced_to l.site.wiring.now l.site.me.0 l.actor (pos l.up) l.number
