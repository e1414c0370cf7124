use Rattle.std.proofs.Common.{◌≡◌, ◌+◌, ◌*◌, ◌<◌, List, Some, length, sym, subst, arith}
use Rattle.std.specs.Prelude.{reverse}
use Rattle.room_tokens.specs.action_tokens.Single.{left}
use Rattle.action_parse.specs.declared.goal.Goal.{Goal}
use Rattle.action_parse.specs.Expected.{Accepted, expand}
use Rattle.action_parse.proofs.Steps.{Same, turn, turn_short, accepts_end, is_empty, are_none}
use Rattle.action_parse.proofs.recogniser.accepts.Goals as goal

pub loop-goal-smaller : goal.loop-goal-smaller
loop-goal-smaller c =
    let found : expand c.in-Some.goal (left c.loop-goal.rest) ≡ Some (reverse c.in-Ok.found.0.now, left c.in-Ok.found.1) = c.in-Ok.ensures in
    let less = turn_short c.loop-goal.stack.items c.pop.new.self.items c.in-Some.goal c.in-Ok.found.0.now (left c.loop-goal.rest) (left c.in-Ok.found.1) c.in-Some.ensures.items found in
    subst (λ (items : List Goal). 16 * length (left c.in-Ok.found.1) + length items < 16 * length (left c.loop-goal.rest) + length c.loop-goal.stack.items) (sym c.in_ok-put-2.ensures) less

pub loop-goal-preserved : goal.loop-goal-preserved
loop-goal-preserved c =
    let found : expand c.in-Some.goal (left c.loop-goal.rest) ≡ Some (reverse c.in-Ok.found.0.now, left c.in-Ok.found.1) = c.in-Ok.ensures in
    let next = turn (Accepted (reverse c.args.expected.now) (left c.args.rest)) c.loop-goal.stack.items c.pop.new.self.items c.in-Some.goal c.in-Ok.found.0.now (left c.loop-goal.rest) (left c.in-Ok.found.1) c.in-Some.ensures.items found c.loop-goal.invariant in
    subst (λ (items : List Goal). Same (Accepted (reverse c.args.expected.now) (left c.args.rest)) (reverse items) (left c.in-Ok.found.1)) (sym c.in_ok-put-2.ensures) next

pub returns-in-empty : goal.returns-in-empty
returns-in-empty c =
    accepts_end (Accepted (reverse c.args.expected.now) (left c.args.rest)) c.loop-goal.stack.items (left c.loop-goal.rest)
    (is_empty c.loop-goal.stack.items (omega (arith, c.loop-goal.stack.ok.0, c.in_default.ensures.cases.0)))
    (are_none c.loop-goal.rest.bytes.now c.loop-goal.rest.tokens.now (omega (arith, c.in-empty.len_below))) c.loop-goal.invariant
