use Rattle.std.proofs.Common.{rules, ◌≡◌}
use Rattle.std.specs.Bool.{Decides}
use Rattle.std.proofs.lemmas.Slice.Eq.{slice_eq-Decides}
use Rattle.room_kinds.specs.declared.note.Note.{Note}
use Rattle.room_kinds.specs.contracts.note.NotePartialEq.TheImpl as notes
use Rattle.journal.proofs.same.is_same_list.Goals as goal

-- notes that `==` takes for the same are
same_note : (a b : Note) → Decides (notes.eq-value.it a b) (a ≡ b)
same_note a b = search rules

pub returns : goal.returns
returns c = slice_eq-Decides same_note _ _ _ c.eq.ensures
