use Rattle.std.proofs.Common.{subst, List, ℕ}
use Rattle.std.specs.Prelude.{decimal}
use Rattle.room_outside.specs.Written.{Writes}
use Rattle.made_model.proofs.Pieces.{in_one_piece}
use Rattle.made_model.proofs.summary.write_lines.Goals as goal

pub returns : goal.returns
returns g c =
    subst (λ (text : List ℕ). Writes c.write_only_line.result (g.K.Sink.written c.args.sink.now) (g.K.Sink.written c.write_only_line.new.sink) text)
    (in_one_piece (decimal c.args.actors) c.args.posts.now c.args.fetches.now c.args.handled.now c.args.unhandled.now c.args.end.now)
    c.write_only_line.ensures
