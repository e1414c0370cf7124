use Rattle.std.proofs.Common.{◌∙◌, sym}
use Rattle.wiring_joins.proofs.layer_joins.Lookups.{fitting_there, fitting_missing}
use Rattle.wiring_joins.proofs.layer_joins.indexes.Indexes.fitting_in.Goals as goal

pub returns-in-Some : goal.returns-in-Some
returns-in-Some c = c.fitting.ensures ∙ fitting_there _ _ _ _ _ _ c.requires.classes (sym c.in-Some.ensures) c.ranges.reference.fits c.ranges.protocol.fits

pub returns-in-None : goal.returns-in-None
returns-in-None c = fitting_missing _ _ _ _ _ c.requires.classes (sym c.in-None.ensures)
