use Rattle.wiring_joins.proofs.place_joins.JoinedLaw.{shows_joins_at}
use Rattle.wiring_joins.proofs.place_joins.partners.partners_of.Goals as goal

pub returns-clause-joins : goal.returns-clause-joins
returns-clause-joins c = shows_joins_at _ _ _ c.in_ok-all.ensures
