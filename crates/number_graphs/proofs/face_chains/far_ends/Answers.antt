use Rattle.number_graphs.proofs.face_chains.Shown.{shown_at}
use Rattle.number_graphs.proofs.face_chains.far_ends.Goals as goal

pub returns-clause-chains : goal.returns-clause-chains
returns-clause-chains c = shown_at _ _ _ c.in_ok-far.ensures
