use Rattle.room_outside.proofs.line_text.OutputLemmas.{whole_fault}
use Rattle.room_show.proofs.text.show_text.Goals as goal

pub returns-in-Err-clause-fault : goal.returns-in-Err-clause-fault
returns-in-Err-clause-fault g c =
    whole_fault _ c.new-out.ensures c.fault.ensures.taken c.fault.ensures.range c.in-Err.ensures
