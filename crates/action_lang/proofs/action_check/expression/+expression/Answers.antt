use Rattle.std.proofs.Common.{◌+◌, drop, arith}
use Rattle.action_lang.proofs.action_check.Built.{drop_at, drop_all, steps_turn, steps_end}
use Rattle.action_lang.proofs.action_check.expression.+expression.Goals as goal

pub steps-loop-step-preserved : goal.steps-loop-step-preserved
steps-loop-step-preserved t c =
    let is = rw c.deref-step-items.ensures.value at c.step-item.is in
    let here = drop_at c.args.steps.now.items c.loop-step.step-index c.step-item.result (omega arith) is in
    rw c.in_ok-push.ensures.items
    (steps_turn c.args.scope.now c.step-item.result (drop c.loop-step.step-index c.args.steps.now.items) (drop (c.loop-step.step-index + 1) c.args.steps.now.items) c.loop-step.found.items c.in_ok-operand.operand _ _ here c.in_ok-operand.ensures.0 c.in_ok-operand.ensures.1 c.loop-step.invariant.0 c.loop-step.invariant.1)

pub steps-returns : goal.steps-returns
steps-returns t c =
    steps_end c.args.scope.now (drop c.loop-step.step-index c.args.steps.now.items) c.loop-step.found.items _ _ (drop_all c.args.steps.now.items c.loop-step.step-index (omega arith)) c.loop-step.invariant.0 c.loop-step.invariant.1
