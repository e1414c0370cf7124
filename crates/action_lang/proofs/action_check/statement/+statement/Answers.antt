use Rattle.std.proofs.Common.{◌+◌, drop, arith}
use Rattle.action_lang.proofs.action_check.Built.{drop_at, drop_all, stmts_turn, stmts_end, branches_turn, branches_end}
use Rattle.action_lang.proofs.action_check.statement.+statement.Goals as goal

pub statements-loop-s-preserved : goal.statements-loop-s-preserved
statements-loop-s-preserved t c =
    let items = c.args.statements.now.items in
    let i = c.loop-s.s-index in
    let is = rw c.deref-s-items.ensures.value at c.s-item.is in
    let here = drop_at items i c.s-item.result (omega arith) is in
    let so_far = c.loop-s.invariant in
    rw c.in_ok-push.ensures.items
    (stmts_turn c.args.scope.now c.s-item.result (drop i items) (drop (i + 1) items) c.loop-s.found.items c.in_ok-one.one c.args.names.now c.loop-s.names c.statement.new.names _ _ _ here c.in_ok-one.ensures.answer.0 c.in_ok-one.ensures.answer.1 c.in_ok-one.ensures.names so_far.3 c.in_ok-one.ensures.grown so_far.0 so_far.1 so_far.2)

pub statements-returns-clause-answer : goal.statements-returns-clause-answer
statements-returns-clause-answer t c =
    let items = c.args.statements.now.items in
    let so_far = c.loop-s.invariant in
    (stmts_end c.args.scope.now (drop c.loop-s.s-index items) c.loop-s.found.items c.loop-s.names _ _ _ (drop_all items c.loop-s.s-index (omega arith)) so_far.0 so_far.1 so_far.2).0

pub branches-loop-branch-preserved : goal.branches-loop-branch-preserved
branches-loop-branch-preserved t c =
    let items = c.args.branches.now.items in
    let i = c.loop-branch.branch-index in
    let is = rw c.deref-branch-items.ensures.value at c.branch-item.is in
    let here = drop_at items i c.branch-item.result (omega arith) is in
    let so_far = c.loop-branch.invariant in
    rw c.in_ok-push.ensures.items
    (branches_turn c.args.scope.now c.branch-item.result (drop i items) (drop (i + 1) items) c.loop-branch.found.items (record { condition = c.in_ok-condition.condition; body = c.in_ok-body.body }) c.args.names.now c.loop-branch.names c.statements.new.names _ _ _ here c.in_ok-condition.ensures.0 c.in_ok-condition.ensures.1 c.in_ok-body.ensures.answer.0 c.in_ok-body.ensures.answer.1 c.in_ok-body.ensures.names so_far.3 c.in_ok-body.ensures.grown so_far.0 so_far.1 so_far.2)

pub branches-returns-clause-answer : goal.branches-returns-clause-answer
branches-returns-clause-answer t c =
    let items = c.args.branches.now.items in
    let so_far = c.loop-branch.invariant in
    (branches_end c.args.scope.now (drop c.loop-branch.branch-index items) c.loop-branch.found.items c.loop-branch.names _ _ _ (drop_all items c.loop-branch.branch-index (omega arith)) so_far.0 so_far.1 so_far.2).0
