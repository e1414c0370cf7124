use Rattle.room_run.proofs.fitting_journals.FittingLaw.{fitting_in_place}
use Rattle.room_run.proofs.fitting_journals.fitting_runs_journals.Goals as goal

pub returns : goal.returns
returns c =
    fitting_in_place c.owners_are_there.ensures c.partners_are_mutual.ensures c.joined_ports_have_one_protocol.ensures c.linked_ports_have_one_protocol.ensures
    c.imported_slots_have_end_ports.ensures
