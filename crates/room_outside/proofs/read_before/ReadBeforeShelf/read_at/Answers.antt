use Rattle.std.proofs.Common.{refl}
use Rattle.room_outside.proofs.read_before.ReadBeforeShelf.read_at.Goals as goal

-- what was read stays, and the files keep their count
pub returns-in-None-clause-keeps : goal.returns-in-None-clause-keeps
returns-in-None-clause-keeps g c =
    rw (← c.self.view_is) (record { texts = λ _. refl; faults = c.read_at.ensures.keeps.faults })
