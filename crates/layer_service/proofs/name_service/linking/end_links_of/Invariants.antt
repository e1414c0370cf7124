use Rattle.std.proofs.Common.{◌≡◌, ◌++◌, drop, filter}
use Rattle.actor_duties.specs.Names.{links_ended, is_user}
use Rattle.layer_service.proofs.name_service.linking.end_links_of.Given as goal

abbrev pub invariant-loop-user : goal.invariant-loop-user
invariant-loop-user l =
    l.initial.out ++ links_ended l.wiring l.provider (filter (is_user l.endpoint) l.users)
    ≡ l.out ++ links_ended l.wiring l.provider (filter (is_user l.endpoint) (drop l.user-index l.users))
