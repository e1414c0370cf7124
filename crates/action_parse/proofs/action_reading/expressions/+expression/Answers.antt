use Rattle.std.proofs.Common.{arith, ◌≡◌, ◌-◌, ◌<◌, ◌++◌, ◌∷◌, [], length, map, sym, ◌∙◌}
use Rattle.std.proofs.lemmas.Result.{err_from_is_err_and}
use Rattle.std.proofs.lemmas.List.{map_push}
use Rattle.room_tokens.proofs.Loop.{starts, goes, ends, is_done}
use Rattle.room_tokens.specs.action_tokens.Single.{left}
use Rattle.action_program.specs.Named.{expr_view, step_view}
use Rattle.action_parse.specs.action_reading.ExprReading.{op_comes, step_at, level, operand}
use Rattle.action_parse.proofs.action_reading.Turns.{level_base, level_fails, others_fail, level_made}
use Rattle.action_parse.proofs.action_reading.ExprSound.{step_shorter, under_is, nothing_inside, nothing_under}
use Rattle.action_parse.proofs.action_reading.expressions.+expression.Goals as goal

pub inside-returns-then-depth-eq0 : goal.inside-returns-then-depth-eq0
inside-returns-then-depth-eq0 t c = rw (c.if-depth-eq0.true) (nothing_inside (left c.args.rest))

pub inside-returns : goal.inside-returns
inside-returns t c = rw (under_is c.args.depth (omega arith)) c.level.ensures

pub nested-returns-then-depth-eq0 : goal.nested-returns-then-depth-eq0
nested-returns-then-depth-eq0 t c = rw (c.if-depth-eq0.true) (nothing_under (left c.args.rest))

pub nested-returns : goal.nested-returns
nested-returns t c = rw (under_is c.args.depth (omega arith)) c.operand.ensures

pub level-returns-then-k-eq0 : goal.level-returns-then-k-eq0
level-returns-then-k-eq0 t c = rw (level_base c.args.k (operand c.args.depth) (left c.args.rest) (omega arith)) c.operand.ensures

pub level-returns-in_err-first : goal.level-returns-in_err-first
level-returns-in_err-first t c =
    let p = err_from_is_err_and c.from_residual.result c.from_residual.ensures.1 in
    rw (p.1, p.2) (level_fails c.in_err-first.field-0.0 c.args.k (operand c.args.depth) (left c.args.rest) (omega arith) c.in_err-first.ensures)

pub level-returns-in_err-others : goal.level-returns-in_err-others
level-returns-in_err-others t c =
    let p = err_from_is_err_and c.from_residual-in_err-others.result c.from_residual-in_err-others.ensures.1 in
    rw (p.1, p.2) (others_fail c.in_err-others.field-0.0 c.args.k (operand c.args.depth) (left c.args.rest) (left c.in_ok-first.rest) (expr_view c.in_ok-first.first) (omega arith) c.in_ok-first.ensures c.in_err-others.ensures)

pub level-returns : goal.level-returns
level-returns t c =
    let made = level_made c.args.k (operand c.args.depth) (left c.args.rest) (left c.in_ok-first.rest) (left c.in_ok-others.rest) (expr_view c.in_ok-first.first) (map step_view c.in_ok-others.others.items) (omega arith) c.in_ok-first.ensures c.in_ok-others.ensures in
    rw c.in_ok-chain.ensures made

pub steps-loop-alloc-init : goal.steps-loop-alloc-init
steps-loop-alloc-init t c = (length (left c.args.rest), omega arith, rw c.new-found.ensures.items (starts (op_comes c.args.k) (step_at c.args.k (level c.args.k (operand c.args.depth))) (left c.args.rest)))

pub steps-returns-in_err-one : goal.steps-returns-in_err-one
steps-returns-in_err-one t c =
    let p = err_from_is_err_and c.from_residual.result c.from_residual.ensures.1 in
    let i = c.loop-alloc.invariant in
    rw (p.1, p.2)
    (ends c.in_err-one.field-0.0 (map step_view c.loop-alloc.found.items) (op_comes c.args.k) (step_at c.args.k (level c.args.k (operand c.args.depth))) i.0 (left c.loop-alloc.rest) _ (sym c.op_comes.ensures ∙ c.loop-alloc-test.true) c.in_err-one.ensures i.2)

pub steps-loop-alloc-smaller : goal.steps-loop-alloc-smaller
steps-loop-alloc-smaller t c = step_shorter c.args.k c.args.depth (left c.loop-alloc.rest) (step_view c.in_ok-one.one) (left c.in_ok-one.after) c.in_ok-one.ensures

pub steps-loop-alloc-preserved : goal.steps-loop-alloc-preserved
steps-loop-alloc-preserved t c =
    let i = c.loop-alloc.invariant in
    let one = c.in_ok-one.one in
    let less : length (left c.in_ok-one.after) < length (left c.loop-alloc.rest) = step_shorter c.args.k c.args.depth (left c.loop-alloc.rest) (step_view one) (left c.in_ok-one.after) c.in_ok-one.ensures in
    let pushed : map step_view c.push.new.self.items ≡ map step_view c.loop-alloc.found.items ++ step_view one ∷ [] = rw c.in_ok-push.ensures.items (map_push step_view c.loop-alloc.found.items one) in (
      i.0 - 1,
      omega (arith, i.1),
      rw pushed
          (goes (map step_view c.loop-alloc.found.items) (op_comes c.args.k) (step_at c.args.k (level c.args.k (operand c.args.depth))) i.0 (left c.loop-alloc.rest) (step_view one) (left c.in_ok-one.after) _ (omega (arith, i.1)) (sym c.op_comes.ensures ∙ c.loop-alloc-test.true) c.in_ok-one.ensures i.2),
    )

pub steps-returns : goal.steps-returns
steps-returns t c =
    let i = c.loop-alloc.invariant in
    is_done (map step_view c.loop-alloc.found.items) (op_comes c.args.k) (step_at c.args.k (level c.args.k (operand c.args.depth))) i.0 (left c.loop-alloc.rest) _ (sym c.op_comes.ensures ∙ c.loop-alloc-test.false) i.2
