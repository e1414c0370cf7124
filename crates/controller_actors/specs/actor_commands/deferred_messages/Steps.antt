-- A command on deferred messages, as one step of what an actor keeps, of what comes back, and of the notes.
use Rattle.std.specs.Prelude.{◌≡◌, List, ◌++◌}
use Rattle.room_kinds.specs.declared.message.Msg.{Msg}
use Rattle.room_kinds.specs.declared.note.Note.{Note}
use Rattle.actor_duties.specs.Commands.{Kept}

-- what is kept is what the command leaves; what it brings back goes before what came back earlier; and its
-- notes follow
pub record Applies (k : Kept) (now before after : List Msg) (told told' : List Note) : Type 0 where
  pub deferred : now ≡ k.deferred
  pub back : after ≡ k.back ++ before
  pub notes : told' ≡ told ++ k.notes
