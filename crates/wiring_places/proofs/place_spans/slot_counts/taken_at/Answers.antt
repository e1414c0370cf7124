use Rattle.std.proofs.Common.{sym}
use Rattle.wiring_places.proofs.place_spans.SlotSteps.{taken_there, taken_past}
use Rattle.wiring_places.proofs.place_spans.slot_counts.taken_at.Goals as goal

pub returns-in-Some : goal.returns-in-Some
returns-in-Some c = λ plan slots known. taken_there plan slots _ _ _ known (sym c.in-Some.ensures)

pub returns-in-None : goal.returns-in-None
returns-in-None c = λ plan slots known. taken_past plan slots _ _ _ known (sym c.in-None.ensures) c.requires
