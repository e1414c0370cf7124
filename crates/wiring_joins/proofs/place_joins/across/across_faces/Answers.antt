use Rattle.std.proofs.Common.{ℕ, List, sym, subst}
use Rattle.number_graphs.specs.face_chains.Chains.{IsInvolution}
use Rattle.wiring_joins.proofs.place_joins.AcrossLaw.{across_is_involution}
use Rattle.wiring_joins.proofs.place_joins.across.across_faces.Goals as goal

pub returns-clause-involution : goal.returns-clause-involution
returns-clause-involution c = let Q : List ℕ → Type 0 = λ xs. IsInvolution xs in subst Q (sym c.in_ok-across.ensures) (across_is_involution c.args.places.now)
