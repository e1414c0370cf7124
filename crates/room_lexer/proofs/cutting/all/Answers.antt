use Rattle.std.proofs.Common.{arith, ◌+◌, ◌-◌, sym, length}
use Rattle.room_lexer.specs.Cutting.{cut, tokens}
use Rattle.room_lexer.proofs.Turns.{with_none, goes, fails, is_done}
use Rattle.room_lexer.proofs.Cut.{gives_fault}
use Rattle.room_lexer.proofs.cutting.all.Goals as goal

pub loop-rest-init : goal.loop-rest-init
unfolding tokens
loop-rest-init c = (length c.args.bytes.now + 1, omega arith, omega arith, rw c.new-tokens.ensures.items (with_none (cut (length c.args.bytes.now + 1) 0 c.args.bytes.now)))

pub returns-in-Err : goal.returns-in-Err
returns-in-Err c =
    let i = c.loop-rest.invariant in
    let read = fails c.loop-rest.tokens.items i.0 c.loop-rest.at c.loop-rest.rest.now c.in-Err.cause _ (grind arith) i.1 (sym c.in-Err.ensures.value) i.3 in
    rw c.fault.ensures (gives_fault (tokens c.args.bytes.now) c.in-Err.cause c.loop-rest.at read)

pub loop-rest-preserved : goal.loop-rest-preserved
loop-rest-preserved c =
    let i = c.loop-rest.invariant in
    let len = c.in-Ok.found.1 in
    let within = c.in-Ok.ensures.within in
    let next = goes c.loop-rest.tokens.items i.0 c.loop-rest.at c.loop-rest.rest.now c.in-Ok.found.0 len _ (omega (arith, within.0, within.1)) i.1 (sym c.in-Ok.ensures.value) i.3 in
    (i.0 - 1, omega (arith, i.1, within.0, within.1, c.split_at.ensures.back_len), omega (arith, i.2, c.split_at.ensures.back_len), rw (c.in_ok-add.ensures, c.split_at.ensures.back) next)

pub returns : goal.returns
returns c =
    let i = c.loop-rest.invariant in
    is_done c.loop-rest.tokens.items i.0 c.loop-rest.at c.loop-rest.rest.now _ (grind arith) i.1 i.3
