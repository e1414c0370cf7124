use Rattle.std.proofs.Common.{ap}
use Rattle.controller.specs.View.{Controller}
use Rattle.controller.proofs.Keeping.{of_failed}
use Rattle.controller.proofs.controller.Controller.turn.Goals as goal

pub returns-in-Err-clause-of : goal.returns-in-Err-clause-of
returns-in-Err-clause-of c = of_failed c.args.plant.now c.args.self.now c.take_turn.new.self c.fail.new.self c.in-Err.ensures.me c.fail.ensures c.requires.of

pub returns-in-Err-clause-err : goal.returns-in-Err-clause-err
returns-in-Err-clause-err c = ap (λ (k : Controller). k.failed) c.fail.ensures
