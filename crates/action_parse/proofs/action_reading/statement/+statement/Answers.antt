use Rattle.std.proofs.Common.{arith, ◌≡◌, ◌-◌, ◌<◌, ◌++◌, ◌∷◌, [], length, map, sym, ◌∙◌}
use Rattle.std.proofs.lemmas.Result.{err_from_is_err_and}
use Rattle.std.proofs.lemmas.List.{map_push}
use Rattle.room_tokens.proofs.Loop.{starts, goes, ends, is_done}
use Rattle.room_tokens.specs.action_tokens.Single.{left}
use Rattle.action_program.specs.Named.{stmt_view, branch_view}
use Rattle.action_parse.specs.action_reading.ExprReading.{expression}
use Rattle.action_parse.specs.action_reading.StmtReading.{branch_at, else_if_comes, else_if_at, branches_at, goes_on, statement, block_below}
use Rattle.action_parse.proofs.action_reading.Turns.{starts_behind}
use Rattle.action_parse.proofs.action_reading.StmtShorter.{else_if_shorter, statement_shorter, block_is, no_block}
use Rattle.action_parse.proofs.action_reading.statement.+statement.Goals as goal

pub block-returns-then-depth-eq0 : goal.block-returns-then-depth-eq0
block-returns-then-depth-eq0 t c = rw (c.if-depth-eq0.true) (no_block (left c.args.rest))

pub block-returns : goal.block-returns
block-returns t c = rw (block_is c.args.depth (left c.args.rest) (omega arith)) c.braces.ensures

pub branches-loop-alloc-init : goal.branches-loop-alloc-init
unfolding branches_at
branches-loop-alloc-init t c = (
  length (left c.in_ok-first.rest),
  omega arith,
  rw (c.in_ok-push.ensures.items, c.new-found.ensures.items)
      (starts_behind (branch_at (expression c.args.depth) (block_below c.args.depth)) else_if_comes (else_if_at (expression c.args.depth) (block_below c.args.depth)) (left c.args.rest) (branch_view c.in_ok-first.first) (left c.in_ok-first.rest) c.in_ok-first.ensures),
)

pub branches-returns-in_err-one : goal.branches-returns-in_err-one
branches-returns-in_err-one t c =
    let p = err_from_is_err_and c.from_residual-in_err-one.result c.from_residual-in_err-one.ensures.1 in
    let i = c.loop-alloc.invariant in
    rw (p.1, p.2)
    (ends c.in_err-one.field-0.0 (map branch_view c.loop-alloc.found.items) else_if_comes (else_if_at (expression c.args.depth) (block_below c.args.depth)) i.0 (left c.loop-alloc.rest) _ (sym c.else_if_comes.ensures ∙ c.loop-alloc-test.true) c.in_err-one.ensures i.2)

pub branches-loop-alloc-smaller : goal.branches-loop-alloc-smaller
branches-loop-alloc-smaller t c = else_if_shorter c.args.depth (left c.loop-alloc.rest) (branch_view c.in_ok-one.one) (left c.in_ok-one.after) c.in_ok-one.ensures

pub branches-loop-alloc-preserved : goal.branches-loop-alloc-preserved
branches-loop-alloc-preserved t c =
    let i = c.loop-alloc.invariant in
    let one = c.in_ok-one.one in
    let less : length (left c.in_ok-one.after) < length (left c.loop-alloc.rest) = else_if_shorter c.args.depth (left c.loop-alloc.rest) (branch_view one) (left c.in_ok-one.after) c.in_ok-one.ensures in
    let pushed : map branch_view c.push-in-loop-alloc.new.self.items ≡ map branch_view c.loop-alloc.found.items ++ branch_view one ∷ [] = rw c.in_ok-push-2.ensures.items (map_push branch_view c.loop-alloc.found.items one) in (
      i.0 - 1,
      omega (arith, i.1),
      rw pushed
          (goes (map branch_view c.loop-alloc.found.items) else_if_comes (else_if_at (expression c.args.depth) (block_below c.args.depth)) i.0 (left c.loop-alloc.rest) (branch_view one) (left c.in_ok-one.after) _ (omega (arith, i.1)) (sym c.else_if_comes.ensures ∙ c.loop-alloc-test.true) c.in_ok-one.ensures i.2),
    )

pub branches-returns : goal.branches-returns
branches-returns t c =
    let i = c.loop-alloc.invariant in
    is_done (map branch_view c.loop-alloc.found.items) else_if_comes (else_if_at (expression c.args.depth) (block_below c.args.depth)) i.0 (left c.loop-alloc.rest) _ (sym c.else_if_comes.ensures ∙ c.loop-alloc-test.false) i.2

pub statements-loop-alloc-init : goal.statements-loop-alloc-init
statements-loop-alloc-init t c = (length (left c.args.rest), omega arith, rw c.new-found.ensures.items (starts goes_on (statement c.args.depth) (left c.args.rest)))

pub statements-returns-in_err-one : goal.statements-returns-in_err-one
statements-returns-in_err-one t c =
    let p = err_from_is_err_and c.from_residual.result c.from_residual.ensures.1 in
    let i = c.loop-alloc.invariant in
    rw (p.1, p.2) (ends c.in_err-one.field-0.0 (map stmt_view c.loop-alloc.found.items) goes_on (statement c.args.depth) i.0 (left c.loop-alloc.rest) _ (sym c.goes_on.ensures ∙ c.loop-alloc-test.true) c.in_err-one.ensures i.2)

pub statements-loop-alloc-smaller : goal.statements-loop-alloc-smaller
statements-loop-alloc-smaller t c = statement_shorter c.args.depth (left c.loop-alloc.rest) (stmt_view c.in_ok-one.one) (left c.in_ok-one.after) c.in_ok-one.ensures

pub statements-loop-alloc-preserved : goal.statements-loop-alloc-preserved
statements-loop-alloc-preserved t c =
    let i = c.loop-alloc.invariant in
    let one = c.in_ok-one.one in
    let less : length (left c.in_ok-one.after) < length (left c.loop-alloc.rest) = statement_shorter c.args.depth (left c.loop-alloc.rest) (stmt_view one) (left c.in_ok-one.after) c.in_ok-one.ensures in
    let pushed : map stmt_view c.push.new.self.items ≡ map stmt_view c.loop-alloc.found.items ++ stmt_view one ∷ [] = rw c.in_ok-push.ensures.items (map_push stmt_view c.loop-alloc.found.items one) in (
      i.0 - 1,
      omega (arith, i.1),
      rw pushed
          (goes (map stmt_view c.loop-alloc.found.items) goes_on (statement c.args.depth) i.0 (left c.loop-alloc.rest) (stmt_view one) (left c.in_ok-one.after) _ (omega (arith, i.1)) (sym c.goes_on.ensures ∙ c.loop-alloc-test.true) c.in_ok-one.ensures i.2),
    )

pub statements-returns : goal.statements-returns
statements-returns t c =
    let i = c.loop-alloc.invariant in
    is_done (map stmt_view c.loop-alloc.found.items) goes_on (statement c.args.depth) i.0 (left c.loop-alloc.rest) _ (sym c.goes_on.ensures ∙ c.loop-alloc-test.false) i.2
