use Rattle.std.proofs.Common.{length}
use Rattle.room_outside.proofs.SinkLemmas.{WritesFront}
use Rattle.room_outside.proofs.sink.write_whole.Given as goal

abbrev pub invariant-loop-rest : goal.invariant-loop-rest
invariant-loop-rest g l = WritesFront (g.K.Sink.written l.fn.sink) (g.K.Sink.written l.sink) l.piece l.rest

abbrev pub decreases-loop-rest : goal.decreases-loop-rest
decreases-loop-rest g l = length l.rest
