use Rattle.std.proofs.Common.{◌≡◌, List, Some, None, sym, map}
use Rattle.room_tokens.specs.Reader.{to_end}
use Rattle.room_tokens.specs.action_tokens.Values.{Value, token_value}
use Rattle.action_program.specs.Named.{program_view}
use Rattle.action_parse.specs.action_reading.StmtReading.{stmts_at, statement}
use Rattle.action_parse.proofs.Judged.{found_program, refused_program}
use Rattle.action_parse.proofs.parse.parse_action.Goals as goal

pub returns-in-Ok-shallow_program : goal.returns-in-Ok-shallow_program
returns-in-Ok-shallow_program c =
    let ts : List Value = map (token_value c.args.bytes.now) c.in-Ok.tokens.items in
    let same = c.as_slice.ensures.value in
    let read : to_end (stmts_at (statement 64)) ts ≡ Some (program_view c.in-Ok-shallow_program.program) = rw same at c.in-Ok-shallow_program.ensures in
    found_program c.args.bytes.now ts (program_view c.in-Ok-shallow_program.program) c.limited.result c.in-Ok.ensures read c.limited.ensures

pub returns : goal.returns
returns c =
    let ts : List Value = map (token_value c.args.bytes.now) c.in-Ok.tokens.items in
    let same = c.as_slice.ensures.value in
    let again = c.as_slice-in-Err-Syntax.ensures.value in
    let none : to_end (stmts_at (statement 64)) ts ≡ None = rw (sym same) (rw c.in-Err-Syntax.field-0-is at c.in-Err-Syntax.ensures) in
    let refused = rw again at c.refusal.ensures in
    refused_program c.args.bytes.now ts c.refusal.result c.in-Ok.ensures none refused
