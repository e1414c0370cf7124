use Rattle.std.proofs.Common.{ap, ◌∙◌}
use Rattle.actor_duties.specs.Names.{waiting}
use Rattle.room_kinds.specs.declared.numbers.Endpoint.{Endpoint}
use Rattle.std.specs.Prelude.{None}
use Rattle.layer_service.proofs.name_service.Written.{written_on}
use Rattle.layer_service.proofs.name_service.linking.wait_again.Goals as goal

pub loop-i-preserved : goal.loop-i-preserved
loop-i-preserved c =
    written_on waiting c.loop-i.users c.args.users.now c.loop-i.i c.index-users-i.result c.new.result c.loop-i-test.true c.loop-i.auto.users c.index-users-i.is
    (c.new.ensures ∙ ap (λ (e : Endpoint). record { at = e; linked = None }) c.at.ensures) c.loop-i.invariant
