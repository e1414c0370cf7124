use Rattle.std.proofs.Common.{arith, ◌-◌, ◌<◌, length, sym, ◌∙◌}
use Rattle.std.proofs.lemmas.Result.{err_from_is_err_and}
use Rattle.room_lexer.specs.declared.token.Mark.TheVariants as marks
use Rattle.room_tokens.proofs.Loop.{goes, ends, is_done}
use Rattle.room_tokens.specs.action_tokens.Single.{left, comes}
use Rattle.action_parse.specs.action_reading.ExprReading.{part_at}
use Rattle.action_parse.proofs.action_reading.Turns.{starts_path}
use Rattle.action_parse.proofs.action_reading.ExprSound.{part_shorter}
use Rattle.action_parse.proofs.action_reading.expressions.parts.Goals as goal

pub loop-alloc-init : goal.loop-alloc-init
loop-alloc-init c = (length (left c.args.rest), omega arith, rw (c.in_ok-push.ensures.items, c.new-path.ensures.items) (starts_path c.args.first (left c.args.rest)))

pub returns-in_err-next_part : goal.returns-in_err-next_part
returns-in_err-next_part c =
    let p = err_from_is_err_and c.from_residual-in_err-next_part.result c.from_residual-in_err-next_part.ensures.1 in
    let i = c.loop-alloc.invariant in
    rw (p.1, p.2) (ends c.in_err-next_part.field-0.0 c.loop-alloc.path.items (comes marks.Dot) part_at i.0 (left c.loop-alloc.rest) _ (sym c.comes.ensures ∙ c.loop-alloc-test.true) c.in_err-next_part.ensures i.2)

pub loop-alloc-smaller : goal.loop-alloc-smaller
loop-alloc-smaller c = part_shorter (left c.loop-alloc.rest) c.in_ok-next_part.next_part (left c.in_ok-next_part.after) c.in_ok-next_part.ensures

pub loop-alloc-preserved : goal.loop-alloc-preserved
loop-alloc-preserved c =
    let i = c.loop-alloc.invariant in
    let less : length (left c.in_ok-next_part.after) < length (left c.loop-alloc.rest) = part_shorter (left c.loop-alloc.rest) c.in_ok-next_part.next_part (left c.in_ok-next_part.after) c.in_ok-next_part.ensures in
    (i.0 - 1, omega (arith, i.1), rw c.in_ok-push-2.ensures.items (goes c.loop-alloc.path.items (comes marks.Dot) part_at i.0 (left c.loop-alloc.rest) c.in_ok-next_part.next_part (left c.in_ok-next_part.after) _ (omega (arith, i.1)) (sym c.comes.ensures ∙ c.loop-alloc-test.true) c.in_ok-next_part.ensures i.2))

pub returns : goal.returns
returns c =
    let i = c.loop-alloc.invariant in
    is_done c.loop-alloc.path.items (comes marks.Dot) part_at i.0 (left c.loop-alloc.rest) _ (sym c.comes.ensures ∙ c.loop-alloc-test.false) i.2
