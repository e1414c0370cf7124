use Rattle.room_outside.proofs.line_text.OutputLemmas.{whole_fault}
use Rattle.room_outside.proofs.line_text.lines.write_only_line.Goals as goal

pub returns-in-Err : goal.returns-in-Err
returns-in-Err g c =
    whole_fault _ c.new-out.ensures c.fault.ensures.taken c.fault.ensures.range c.in-Err.ensures
