use Rattle.room_outside.proofs.line_text.OutputLemmas.{whole_fault}
use Rattle.binding_expand.proofs.tree_text.text.expand_text.Goals as goal

pub returns-in-Err-clause-fault : goal.returns-in-Err-clause-fault
returns-in-Err-clause-fault g c =
    whole_fault _ c.new-out.ensures c.fault.ensures.taken c.fault.ensures.range c.in-Err.ensures
