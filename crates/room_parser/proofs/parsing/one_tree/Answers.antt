use Rattle.room_parser.proofs.WhatParsingAnswers.{same_tokens_same_model}
use Rattle.room_parser.proofs.parsing.one_tree.Goals as goal

pub returns : goal.returns
returns c = same_tokens_same_model
