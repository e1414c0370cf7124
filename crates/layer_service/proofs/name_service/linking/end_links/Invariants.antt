use Rattle.std.proofs.Common.{◌≡◌, ◌++◌, drop}
use Rattle.actor_duties.specs.Names.{links_ended}
use Rattle.layer_service.proofs.name_service.linking.end_links.Given as goal

abbrev pub invariant-loop-user : goal.invariant-loop-user
invariant-loop-user l = l.initial.out ++ links_ended l.wiring l.provider l.users ≡ l.out ++ links_ended l.wiring l.provider (drop l.user-index l.users)
