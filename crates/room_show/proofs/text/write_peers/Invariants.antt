use Rattle.std.proofs.Common.{drop}
use Rattle.std.specs.List.{flat_map}
use Rattle.room_outside.specs.line_text.Output.{at_rest}
use Rattle.room_show.specs.Lines.{peer_line}
use Rattle.room_outside.proofs.line_text.Going.{Going}
use Rattle.room_show.proofs.text.write_peers.Given as goal

abbrev pub invariant-loop-peer : goal.invariant-loop-peer
invariant-loop-peer g l =
    Going (at_rest (g.K.Sink.written l.initial.sink) l.initial.out) (at_rest (g.K.Sink.written l.sink) l.out)
    (flat_map (peer_line l.wiring l.slot.0) l.peers) (flat_map (peer_line l.wiring l.slot.0) (drop l.peer-index l.peers))
