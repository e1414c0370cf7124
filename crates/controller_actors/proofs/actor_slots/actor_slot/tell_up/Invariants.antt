use Rattle.std.proofs.Common.{◌≡◌, [], ◌∷◌, ◌++◌, take}
use Rattle.room_kinds.specs.declared.note.Note.TheVariants as notes
use Rattle.controller_actors.proofs.actor_slots.actor_slot.tell_up.Given as goal

-- those so far are told
abbrev pub invariant-loop-note : goal.invariant-loop-note
invariant-loop-note l = l.notes ≡ (l.fn.notes ++ notes.Up l.fn.who l.state ∷ []) ++ take l.note-index l.told
