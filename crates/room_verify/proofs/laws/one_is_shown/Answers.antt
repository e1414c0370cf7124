use Rattle.room_verify.proofs.ShownLaw.{one_shown, shown_alone}
use Rattle.room_verify.proofs.laws.one_is_shown.Goals as goal

pub returns-clause-one : goal.returns-clause-one
returns-clause-one g c = λ model t items j at o a b h k. one_shown model t items j at o a b h k

pub returns-clause-alone : goal.returns-clause-alone
returns-clause-alone g c = λ model t items j at o snapshot v h u. shown_alone model t items j at o snapshot v h u.early (u.is 0)
