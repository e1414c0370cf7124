use Rattle.std.proofs.Common.{◌≤◌, ◌+◌, ◌*◌, arith}
use Rattle.std.proofs.Math.Nat.{mul-le-mul_left}
use Rattle.journal_reader.proofs.journal_fits.journals.rank.Goals as goal

pub overflow_mul-result-2 : goal.overflow_mul-result-2
overflow_mul-result-2 c =
    let receiver : c.args.to.0 ≤ 255 = omega arith in
    let parties : c.args.count ≤ 255 = omega arith in
    omega (arith, mul-le-mul_left (2 * (6 * (1 + c.args.count))) receiver)
