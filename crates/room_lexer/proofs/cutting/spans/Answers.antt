use Rattle.std.proofs.Common.{[], refl}
use Rattle.room_lexer.proofs.Cut.{texts, rise}
use Rattle.room_lexer.proofs.cutting.spans.Goals as goal

pub returns-clause-texts : goal.returns-clause-texts
returns-clause-texts c bytes ps h = texts bytes ps 0 [] bytes refl refl h

pub returns-clause-rise : goal.returns-clause-rise
returns-clause-rise c ps bytes h = rise ps 0 bytes h
