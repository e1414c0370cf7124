-- What the notes of an end tell of the messages that are lost.
-- The law `downs_tell_lost`: over every replay of a controller from its start, where a turn has
-- the note `down` of an incarnation with a number, the incarnation lived before the turn and its
-- deferred list had so many messages. The premises are those of `stands_once`.
use Rattle.std.specs.Prelude.{◌≡◌, ℕ, true, List, length, Contains}
use Rattle.room_kinds.specs.declared.note.Note.{Note}
use Rattle.room_kinds.specs.declared.note.Note.TheVariants as notes
use Rattle.room_kinds.specs.declared.numbers.Incarnation.{Incarnation}
use Rattle.room_kinds.specs.declared.numbers.Stamp.{Stamp}
use Rattle.room_kinds.specs.declared.numbers.ControllerId.{ControllerId}
use Rattle.journal.specs.declared.entry.Did.{Did}
use Rattle.journal.specs.declared.entry.Entry.{Entry}
use Rattle.journal.specs.declared.entry.Entry.TheVariants as entry
use Rattle.room_wiring.specs.declared.tables.Tables.{Tables}
use Rattle.actor_merge.specs.Parties.{State, Line, Does, Replays}
use Rattle.actor_duties.specs.Lives.{is_live}
use Rattle.actor_world.specs.Behaviour.{Behaviour}
use Rattle.actor_world.specs.Body.{Body}
use Rattle.actor_world.specs.Start.{plant_of, first_state}
use Rattle.actor_world.specs.Life.{IsModest}
use Rattle.actor_world.specs.world_laws.Whereabouts.{TellsDefers}

-- over every replay of a controller from its start: what a turn notes as down with a number lived before
-- the turn, and had deferred so many messages
abbrev pub DownsTellLost : Type 0 → Type 0
DownsTellLost M =
    (model : Behaviour M) (t : Tables) (lines : List Line) (c : ℕ) → IsModest model → TellsDefers model
    → (before : List Entry) (s next : State (Body M)) (stamp : Stamp) (from : ControllerId) (sent : Stamp) (what : Did) (ns : List Note)
    → Replays (plant_of model t lines) c (first_state model t c) before s → Does (plant_of model t lines) c s (entry.Turn stamp from sent what ns) next
    → (x : Incarnation) (n : ℕ) → Contains ns (notes.Down x n)
    → (is_live s.body.frame.lives x ≡ true) × (n ≡ length (s.body.deferred x.slot.0))
