use Rattle.std.proofs.Common.{arith, ◌≡◌, ◌-◌, ◌<◌, ◌++◌, ◌∷◌, [], length, map, sym, ◌∙◌}
use Rattle.std.proofs.lemmas.Result.{err_from_is_err_and}
use Rattle.std.proofs.lemmas.List.{map_push}
use Rattle.room_lexer.specs.declared.token.Mark.TheVariants as marks
use Rattle.room_tokens.proofs.Loop.{goes, ends, is_done}
use Rattle.room_tokens.specs.action_tokens.Single.{left, comes}
use Rattle.action_program.specs.Named.{expr_view}
use Rattle.action_parse.specs.action_reading.ExprReading.{expression}
use Rattle.action_parse.specs.action_reading.StmtReading.{argument_at, some_arguments_at}
use Rattle.action_parse.proofs.action_reading.Turns.{starts_behind}
use Rattle.action_parse.proofs.action_reading.StmtShorter.{argument_shorter}
use Rattle.action_parse.proofs.action_reading.statement.some_arguments.Goals as goal

pub loop-alloc-init : goal.loop-alloc-init
unfolding some_arguments_at
loop-alloc-init c = (
  length (left c.in_ok-first.rest),
  omega arith,
  rw (c.in_ok-push.ensures.items, c.new-found.ensures.items)
      (starts_behind (expression c.args.depth) (comes marks.Comma) (argument_at (expression c.args.depth)) (left c.args.rest) (expr_view c.in_ok-first.first) (left c.in_ok-first.rest) c.in_ok-first.ensures),
)

pub returns-in_err-one : goal.returns-in_err-one
returns-in_err-one c =
    let p = err_from_is_err_and c.from_residual-in_err-one.result c.from_residual-in_err-one.ensures.1 in
    let i = c.loop-alloc.invariant in
    rw (p.1, p.2)
    (ends c.in_err-one.field-0.0 (map expr_view c.loop-alloc.found.items) (comes marks.Comma) (argument_at (expression c.args.depth)) i.0 (left c.loop-alloc.rest) _ (sym c.comes.ensures ∙ c.loop-alloc-test.true) c.in_err-one.ensures i.2)

pub loop-alloc-smaller : goal.loop-alloc-smaller
loop-alloc-smaller c = argument_shorter c.args.depth (left c.loop-alloc.rest) (expr_view c.in_ok-one.one) (left c.in_ok-one.after) c.in_ok-one.ensures

pub loop-alloc-preserved : goal.loop-alloc-preserved
loop-alloc-preserved c =
    let i = c.loop-alloc.invariant in
    let one = c.in_ok-one.one in
    let less : length (left c.in_ok-one.after) < length (left c.loop-alloc.rest) = argument_shorter c.args.depth (left c.loop-alloc.rest) (expr_view one) (left c.in_ok-one.after) c.in_ok-one.ensures in
    let pushed : map expr_view c.push-in-loop-alloc.new.self.items ≡ map expr_view c.loop-alloc.found.items ++ expr_view one ∷ [] = rw c.in_ok-push-2.ensures.items (map_push expr_view c.loop-alloc.found.items one) in (
      i.0 - 1,
      omega (arith, i.1),
      rw pushed
          (goes (map expr_view c.loop-alloc.found.items) (comes marks.Comma) (argument_at (expression c.args.depth)) i.0 (left c.loop-alloc.rest) (expr_view one) (left c.in_ok-one.after) _ (omega (arith, i.1)) (sym c.comes.ensures ∙ c.loop-alloc-test.true) c.in_ok-one.ensures i.2),
    )

pub returns : goal.returns
returns c =
    let i = c.loop-alloc.invariant in
    is_done (map expr_view c.loop-alloc.found.items) (comes marks.Comma) (argument_at (expression c.args.depth)) i.0 (left c.loop-alloc.rest) _ (sym c.comes.ensures ∙ c.loop-alloc-test.false) i.2
