use Rattle.binding_expand.proofs.Limits.{same_count_found}
use Rattle.binding_expand.proofs.joined.joined_places.Goals as goal

pub pairs_sockets-requires : goal.pairs_sockets-requires
pairs_sockets-requires c = same_count_found c.args.plan.now c.args.slots.now c.in_ok-places.field-0 c.in-Some.places c.in-Some.is c.in_ok-places.ensures

pub joins_away-requires : goal.joins_away-requires
joins_away-requires c = same_count_found c.args.plan.now c.args.slots.now c.in_ok-places.field-0 c.in-Some.places c.in-Some.is c.in_ok-places.ensures
