use Rattle.room_tokens.specs.Single.{values}
use Rattle.room_parser.proofs.WhatParsingAnswers.{found, refused}
use Rattle.room_parser.proofs.parsing.parse.Goals as goal

pub returns-in-Ok : goal.returns-in-Ok
returns-in-Ok c = found (values c.args.bytes.now c.args.tokens.now) c.in-Ok.model c.in-Ok.ensures

pub returns-in-Err-Syntax : goal.returns-in-Err-Syntax
returns-in-Err-Syntax c = refused (values c.args.bytes.now c.args.tokens.now) c.line_of.result c.in-Err-Syntax.field-0 c.in-Err-Syntax.at c.in-Err-Syntax.field-0-is c.in-Err-Syntax.ensures
