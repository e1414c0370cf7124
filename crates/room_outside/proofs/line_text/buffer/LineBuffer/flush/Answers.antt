use Rattle.std.proofs.Common.{◌≡◌, take, ap}
use Rattle.room_outside.specs.line_text.Output.{Held}
use Rattle.room_outside.proofs.line_text.OutputLemmas.{breaks_flushed}
use Rattle.room_outside.proofs.line_text.buffer.LineBuffer.flush.Goals as goal

pub returns-in-Err-clause-puts : goal.returns-in-Err-clause-puts
returns-in-Err-clause-puts g c =
    let held : take c.self.inside.len c.self.inside.bytes ≡ c.args.self.now.bytes = ap (λ (h : Held). h.bytes) c.self.view_is in
    breaks_flushed _ _ c.args.self.now c.in-Err.fault.taken _ (rw held at c.in-Err.ensures.fault) c.count-in-Err.ensures.count
