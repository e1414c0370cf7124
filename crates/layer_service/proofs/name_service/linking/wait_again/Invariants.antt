use Rattle.std.proofs.Common.{◌≡◌, map, take, drop}
use Rattle.actor_duties.specs.Names.{waiting}
use Rattle.layer_service.proofs.name_service.linking.wait_again.Given as goal

abbrev pub invariant-loop-i : goal.invariant-loop-i
invariant-loop-i l = (take l.i l.users ≡ map waiting (take l.i l.initial.users)) × (drop l.i l.users ≡ drop l.i l.initial.users)
