use Rattle.std.proofs.Common.{arith, [], ◌++◌, ◌+◌, ◌-◌, refl, sym, ◌∙◌, length}
use Rattle.std.proofs.lemmas.Result.{err_from_is_err_and}
use Rattle.room_lexer.specs.Cutting.{cut, tokens, tokens_of}
use Rattle.room_lexer.proofs.Turns.{with_none, goes, fails, is_done}
use Rattle.room_tokens.specs.action_tokens.Values.{action_values}
use Rattle.room_tokens.proofs.action_tokens.Cuts.{values_more, no_value, no_cut, all_cut}
use Rattle.room_tokens.proofs.action_tokens.token.action_tokens.Goals as goal

pub loop-rest-init : goal.loop-rest-init
unfolding tokens
loop-rest-init c = ([], length c.args.bytes.now + 1, omega arith, omega arith, with_none (cut (length c.args.bytes.now + 1) 0 c.args.bytes.now), rw c.new-found.ensures.items refl)

-- what can't be cut has no values
pub returns-in-Err : goal.returns-in-Err
unfolding action_values
returns-in-Err c =
    let i = c.loop-rest.invariant in
    no_cut c.args.bytes.now (tokens c.args.bytes.now) _ (fails i.0 i.1 c.loop-rest.at c.loop-rest.rest.now _ _ (grind arith) i.2 (sym c.in-Err.ensures.value) i.4)

-- nor has what is cut into a token without a value
pub returns-in_err-add : goal.returns-in_err-add
unfolding action_values
returns-in_err-add c =
    let p = err_from_is_err_and c.from_residual.result c.from_residual.ensures.1 in
    let i = c.loop-rest.invariant in
    let found = c.in-Ok.found in
    rw (p.1, p.2) (no_value c.in_err-add.field-0.0 c.args.bytes.now i.0 (tokens_of found.0 c.loop-rest.at (c.loop-rest.at + found.1)) _ _ _ i.5 c.in_err-add.ensures
    (goes i.0 i.1 c.loop-rest.at c.loop-rest.rest.now found.0 found.1 _ (grind arith) i.2 (sym c.in-Ok.ensures.value) i.4))

pub loop-rest-preserved : goal.loop-rest-preserved
loop-rest-preserved c =
    let i = c.loop-rest.invariant in
    let found = c.in-Ok.found in
    let within = c.in-Ok.ensures.within in
    let more = tokens_of found.0 c.loop-rest.at (c.loop-rest.at + found.1) in
    let next = goes i.0 i.1 c.loop-rest.at c.loop-rest.rest.now found.0 found.1 _ (omega (arith, within.0, within.1)) i.2 (sym c.in-Ok.ensures.value) i.4 in (
      i.0 ++ more,
      i.1 - 1,
      omega (arith, i.2, within.0, within.1, c.split_at.ensures.back_len),
      omega (arith, i.3, c.split_at.ensures.back_len),
      rw c.split_at.ensures.back next,
      values_more c.args.bytes.now i.0 more _ i.5 ∙ c.in_ok-add.ensures,
    )

pub returns : goal.returns
unfolding action_values
returns c =
    let i = c.loop-rest.invariant in
    rw c.shrink_to_fit.ensures.items
    (all_cut c.args.bytes.now (tokens c.args.bytes.now) i.0 _ (is_done i.0 i.1 c.loop-rest.at c.loop-rest.rest.now _ (grind arith) i.2 i.4) i.5)
