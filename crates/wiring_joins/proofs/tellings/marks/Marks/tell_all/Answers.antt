use Rattle.std.proofs.Common.{ℕ, true, set, refl, ap, arith}
use Rattle.wiring_joins.proofs.tellings.Marking.{marking_all}
use Rattle.wiring_joins.proofs.tellings.marks.Marks.tell_all.Goals as goal

pub returns-then-from-len : goal.returns-then-from-len
returns-then-from-len c = λ n k size. marking_all n k c.args.self.now _ size refl c.args.slot (omega arith) refl (ap (λ (i : ℕ). set c.args.self.now.everyone.items i true) c.from-then-from-len.ensures)
