use Rattle.room_lexer.specs.declared.piece.Cause.TheVariants as causes
use Rattle.room_lexer.proofs.Cut.{found, only, failed}
use Rattle.room_lexer.proofs.cutting.lex.Goals as goal

pub returns-clause-found : goal.returns-clause-found
returns-clause-found c = found c.all.result c.args.bytes.now c.all.ensures

pub returns-clause-only : goal.returns-clause-only
returns-clause-only c = only c.all.result c.args.bytes.now c.all.ensures

pub returns-clause-bad_byte : goal.returns-clause-bad_byte
returns-clause-bad_byte c = failed c.all.result c.args.bytes.now causes.BadByte c.all.ensures

pub returns-clause-open_string : goal.returns-clause-open_string
returns-clause-open_string c = failed c.all.result c.args.bytes.now causes.OpenString c.all.ensures

pub returns-clause-open_comment : goal.returns-clause-open_comment
returns-clause-open_comment c = failed c.all.result c.args.bytes.now causes.OpenComment c.all.ensures

pub returns-clause-too_large : goal.returns-clause-too_large
returns-clause-too_large c = failed c.all.result c.args.bytes.now causes.NumberTooLarge c.all.ensures
