use Rattle.wiring_joins.proofs.joined_places.places.counts_of.Goals as goal

pub port_counts-requires-clause-places : goal.port_counts-requires-clause-places
port_counts-requires-clause-places c = (c.args.joins.now, c.in_ok-served.ensures, c.requires.places)
