-- What journals say of the lives of actors.
-- An incarnation is an actor that stands, or stood, in a slot. Its create entry is the entry of
-- its start, or of the turn with its note `up`; its destroy entry is that of the turn with its note
-- `down`.
use Rattle.std.specs.Prelude.{◌≡◌, ◌≢◌, ℕ, ◌+◌, ◌≤◌, ◌<◌, List, ◌∷◌, ◌++◌, Some}
use Rattle.room_kinds.specs.declared.numbers.Incarnation.{Incarnation}
use Rattle.journal.specs.declared.entry.Entry.{Entry}
use Rattle.room_wiring.specs.declared.tables.Tables.{Tables}
use Rattle.actor_duties.specs.Words.{owner_of}
use Rattle.law_runs.specs.Turns.{turns_in}
use Rattle.actor_world.specs.Life.{created, destroyed, dispatched_to, LivesOnce}

-- what the journals of the controllers of a wiring say of lives
pub record LivesAreKept (t : Tables) (controllers : ℕ) (journals : ℕ → List Entry) : Type 0 where
  -- at each point of a journal an incarnation has one create entry at most, and no more destroy entries
  -- than that
  pub once : (c : ℕ) (x : Incarnation) (before after : List Entry) → c < controllers → journals c ≡ before ++ after → LivesOnce x before
  -- both stand in the journal of the controller that runs its slot
  pub at_owner : (c : ℕ) (x : Incarnation) → c < controllers → c ≢ owner_of t x.slot.0 → (created x (journals c) ≡ 0) × (destroyed x (journals c) ≡ 0)
  -- a message is dispatched to an incarnation after its create entry and before its destroy entry
  pub dispatched : (c : ℕ) (x : Incarnation) (before after : List Entry) (e : Entry) → c < controllers → journals c ≡ before ++ e ∷ after
      → dispatched_to e ≡ Some x → (created x before ≡ 1) × (destroyed x before ≡ 0)
  -- the generation of what was created is at most one more than the turns so far
  pub generations : (c : ℕ) (x : Incarnation) (before after : List Entry) → c < controllers → journals c ≡ before ++ after → 1 ≤ created x before
      → x.generation.0 ≤ 1 + turns_in before
