use Rattle.std.proofs.Common.{◌≡◌, List, Some, None, sym, map}
use Rattle.room_tokens.specs.Reader.{to_end}
use Rattle.room_tokens.specs.action_tokens.Values.{Value, token_value}
use Rattle.action_program.specs.Named.{expr_view}
use Rattle.action_parse.specs.action_reading.ExprReading.{expression}
use Rattle.action_parse.proofs.Judged.{found_condition, refused_condition}
use Rattle.action_parse.proofs.parse.parse_cond.Goals as goal

pub returns-in-Ok-shallow_condition : goal.returns-in-Ok-shallow_condition
returns-in-Ok-shallow_condition c =
    let ts : List Value = map (token_value c.args.bytes.now) c.in-Ok.tokens.items in
    let same = c.as_slice.ensures.value in
    let read : to_end (expression 64) ts ≡ Some (expr_view c.in-Ok-shallow_condition.condition) = rw same at c.in-Ok-shallow_condition.ensures in
    found_condition c.args.bytes.now ts c.in-Ok-shallow_condition.condition c.in-Ok.ensures read

pub returns : goal.returns
returns c =
    let ts : List Value = map (token_value c.args.bytes.now) c.in-Ok.tokens.items in
    let same = c.as_slice.ensures.value in
    let again = c.as_slice-in-Err-Syntax.ensures.value in
    let none : to_end (expression 64) ts ≡ None = rw (sym same) (rw c.in-Err-Syntax.field-0-is at c.in-Err-Syntax.ensures) in
    let refused = rw again at c.refusal.ensures in
    refused_condition c.args.bytes.now ts c.refusal.result c.in-Ok.ensures none refused
