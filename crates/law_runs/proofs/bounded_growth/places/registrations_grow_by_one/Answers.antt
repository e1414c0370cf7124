use Rattle.law_runs.proofs.bounded_growth.Grown.{provider_grown, user_grown, withdrawal_grown}
use Rattle.law_runs.proofs.bounded_growth.places.registrations_grow_by_one.Goals as goal

pub returns-clause-provider : goal.returns-clause-provider
returns-clause-provider c = λ t b n name protocol base e table small g. provider_grown t b n name protocol base e table small g

pub returns-clause-user : goal.returns-clause-user
returns-clause-user c = λ t b n name protocol e table g. user_grown t b n name protocol e table g

pub returns-clause-withdrawal : goal.returns-clause-withdrawal
returns-clause-withdrawal c = λ t b n e table g. withdrawal_grown t b n e table g
