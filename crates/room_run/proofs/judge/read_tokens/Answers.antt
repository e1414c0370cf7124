use Rattle.std.proofs.Common.{◌≡◌}
use Rattle.room_lexer.specs.declared.piece.Cause.TheVariants.{BadByte, OpenString, OpenComment, NumberTooLarge}
use Rattle.room_lexer.specs.declared.fault.LexFault.TheVariants as lexing
use Rattle.room_run.specs.Models.{no_memory}
use Rattle.room_run.proofs.JudgeLemmas.{tokens_found, cut_fails}
use Rattle.room_run.proofs.judge.read_tokens.Goals as goal

pub returns-in-Ok-clause-ok : goal.returns-in-Ok-clause-ok
returns-in-Ok-clause-ok c =
    let found = c.in-Ok.ensures.found in
    tokens_found c.args.text.now c.in-Ok.tokens.items found.0 found.1 found.2 c.in-Ok.ensures.only

pub returns-in-Err-BadByte-clause-err : goal.returns-in-Err-BadByte-clause-err
returns-in-Err-BadByte-clause-err c =
    let at = c.in-Err-BadByte.offset in
    let is : c.in-Err-BadByte.field-0 ≡ lexing.BadByte c.in-Err-BadByte.offset = cc in
    cut_fails c.args.text.now BadByte at c.in-Err-BadByte.field-0 c.requires is c.in-Err-BadByte.ensures.tokens (c.in-Err-BadByte.ensures.bad_byte at (cc))

pub returns-in-Err-OpenString-clause-err : goal.returns-in-Err-OpenString-clause-err
returns-in-Err-OpenString-clause-err c =
    let at = c.in-Err-OpenString.offset in
    let is : c.in-Err-OpenString.field-0 ≡ lexing.OpenString c.in-Err-OpenString.offset = cc in
    cut_fails c.args.text.now OpenString at c.in-Err-OpenString.field-0 c.requires is c.in-Err-OpenString.ensures.tokens (c.in-Err-OpenString.ensures.open_string at (cc))

pub returns-in-Err-OpenComment-clause-err : goal.returns-in-Err-OpenComment-clause-err
returns-in-Err-OpenComment-clause-err c =
    let at = c.in-Err-OpenComment.offset in
    let is : c.in-Err-OpenComment.field-0 ≡ lexing.OpenComment c.in-Err-OpenComment.offset = cc in
    cut_fails c.args.text.now OpenComment at c.in-Err-OpenComment.field-0 c.requires is c.in-Err-OpenComment.ensures.tokens (c.in-Err-OpenComment.ensures.open_comment at (cc))

pub returns-in-Err-NumberTooLarge-clause-err : goal.returns-in-Err-NumberTooLarge-clause-err
returns-in-Err-NumberTooLarge-clause-err c =
    let at = c.in-Err-NumberTooLarge.offset in
    let is : c.in-Err-NumberTooLarge.field-0 ≡ lexing.NumberTooLarge c.in-Err-NumberTooLarge.offset = cc in
    cut_fails c.args.text.now NumberTooLarge at c.in-Err-NumberTooLarge.field-0 c.requires is c.in-Err-NumberTooLarge.ensures.tokens (c.in-Err-NumberTooLarge.ensures.too_large at (cc))

pub returns-in-Err-Memory-clause-err : goal.returns-in-Err-Memory-clause-err
returns-in-Err-Memory-clause-err c = no_memory
