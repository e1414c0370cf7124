use Rattle.std.proofs.Common.{refl, arith}
use Rattle.wiring_joins.proofs.tellings.Marking.{marking_one}
use Rattle.wiring_joins.proofs.tellings.marks.Marks.tell.Goals as goal

pub returns-then-cell-len : goal.returns-then-cell-len
returns-then-cell-len c = λ n k size. marking_one n k c.args.self.now _ size refl c.args.slot c.args.controller c.cell-cell.result c.cell-cell.ensures c.if-controller-self.false (omega arith) refl refl
