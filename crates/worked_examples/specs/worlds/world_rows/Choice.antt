-- A choice whose condition divides by zero.
use Rattle.std.specs.Prelude.{ℕ, ◌==◌, ◌&&◌, if◌then◌else◌, List, [], ◌∷◌, None}
use Rattle.room_kinds.specs.declared.message.Msg.{Msg}
use Rattle.room_kinds.specs.declared.note.Note.{Note}
use Rattle.room_kinds.specs.declared.note.Note.TheVariants as notes
use Rattle.room_kinds.specs.declared.numbers.Incarnation.{Incarnation}
use Rattle.journal.specs.declared.entry.Did.TheVariants as did
use Rattle.actor_merge.specs.Parties.{Line}
use Rattle.actor_merge.specs.World.{Placed}
use Rattle.actor_duties.specs.Words.{incarnation, endpoint}
use Rattle.actor_world.specs.Behaviour.{Behaviour}
use Rattle.worked_examples.specs.worlds.Writing.{starts_alone, msg, line, posted, fetched, turned, Step, handled, unhandled, IsComputed}
pub use Rattle.worked_examples.specs.worlds.models.OnePort.{tables}

-- what the actor does at a `kick` in A: the condition `1 / x` divides by zero, which is noted and gives 0, so C is entered
abbrev notes_at : ℕ → Msg → List Note
notes_at s m = if (m.signal == 0) && (s == 0) then notes.Zero ∷ [] else []

abbrev step : Incarnation → ℕ → Msg → Step
step x s m = if (m.signal == 0) && (s == 0) then handled 2 [] else unhandled s

-- the behaviour of the actor
abbrev pub model : Behaviour ℕ
model = record {
  begin = λ x. record { machine = 0; notes = []; commands = [] };
  handle = λ x s m. record { machine = (step x s m).state; result = (step x s m).result; notes = notes_at s m; commands = (step x s m).commands };
  state = λ s. s;
}

-- ---- a note of the evaluation

-- what party 1 posts at time 1
abbrev m1_1 : Msg
m1_1 = msg 1 0 3 1 None (endpoint 0 0 1 0) 0 []

-- the lines of the environment, each with its part
abbrev pub lines : List Line
lines = line 1 m1_1 ∷ []

-- all other entries, by stamp and party
abbrev pub merge : List Placed
merge =
    posted m1_1
    ∷ fetched 2 m1_1
    ∷ turned 3 m1_1 (did.Handled (incarnation 0 1) 2) (notes.Zero ∷ [])
    ∷ []

-- the definitions give these journals
abbrev pub ChoiceIsComputed : Type 0
ChoiceIsComputed = IsComputed model tables lines (starts_alone ∷ []) merge
