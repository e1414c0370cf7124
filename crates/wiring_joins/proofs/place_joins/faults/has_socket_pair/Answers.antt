use Rattle.std.proofs.Common.{◌∙◌, sym}
use Rattle.wiring_places.specs.place_rules.Partners.{is_socket_pair}
use Rattle.wiring_joins.proofs.place_joins.PlaceSteps.{any_here, any_next, any_end}
use Rattle.wiring_joins.proofs.place_joins.faults.has_socket_pair.Goals as goal

pub returns-then-is_socket_pair : goal.returns-then-is_socket_pair
returns-then-is_socket_pair c = sym (sym c.loop-i.invariant ∙ any_here is_socket_pair c.args.places.now c.args.partners.now c.loop-i.i _ _ c.requires c.loop-i-test.true (sym c.if-is_socket_pair.ensures))

pub loop-i-preserved : goal.loop-i-preserved
loop-i-preserved c = any_next is_socket_pair c.args.places.now c.args.partners.now c.loop-i.i _ _ c.requires c.loop-i-test.true (sym c.if-is_socket_pair.ensures) ∙ c.loop-i.invariant

pub returns : goal.returns
returns c = sym (sym c.loop-i.invariant ∙ any_end is_socket_pair c.args.places.now c.args.partners.now c.loop-i.i c.loop-i-test.false)
