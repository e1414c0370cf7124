use Rattle.std.proofs.Common.{take, drop}
use Rattle.actor_duties.specs.Names.{linked_users}
use Rattle.layer_service.proofs.name_service.UnderWay.{IsUnderWay}
use Rattle.layer_service.proofs.name_service.linking.link_users.Given as goal

abbrev pub invariant-loop-i : goal.invariant-loop-i
invariant-loop-i l =
    IsUnderWay l.wiring l.provider (linked_users l.wiring l.provider l.initial.users l.next) l.initial.out (take l.i l.users) (drop l.i l.users) l.place l.out
