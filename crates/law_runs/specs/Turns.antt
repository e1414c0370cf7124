-- What the journal of a controller says of turns: each takes a message that was fetched, the most
-- urgent and of its priority the oldest.
-- A turn names its message by its sender and its stamp. A deferred message may have more turns:
-- one each time it comes back.
use Rattle.std.specs.Prelude.{◌≡◌, ◌⊎◌, Some, ℕ, ◌+◌, ◌≤◌, ◌<◌, ◌==◌, ◌&&◌, Bool, true, false, not, List, [], ◌∷◌, ◌++◌, Contains, if◌then◌else◌}
use Rattle.std.specs.List.{list_any}
use Rattle.room_kinds.specs.declared.message.Msg.{Msg}
use Rattle.room_kinds.specs.declared.numbers.Incarnation.{Incarnation}
use Rattle.journal.specs.declared.entry.Entry.{Entry}
use Rattle.journal.specs.declared.entry.Entry.TheVariants as entry
use Rattle.actor_world.specs.Journals.{is_turn}
use Rattle.actor_world.specs.Life.{dispatched_to}
use Rattle.actor_world.specs.world_laws.Whereabouts.{fetched, is_deferred}

-- whether an entry is a turn of this message
abbrev pub is_turn_of : Msg → Entry → Bool
is_turn_of m (entry.Turn stamp from sent what notes) = (from.0 == m.from.0) && (sent.0 == m.stamp.0)
is_turn_of m (entry.Start who state notes) = false
is_turn_of m (entry.Fetch stamp y) = false
is_turn_of m (entry.Post stamp y) = false

-- whether it had a turn
abbrev pub had_turn : Msg → List Entry → Bool
had_turn m es = list_any (is_turn_of m) es

-- whether an entry is a turn that deferred its message
abbrev pub is_deferral : Entry → Bool
is_deferral (entry.Turn stamp from sent what notes) = is_deferred what
is_deferral (entry.Start who state notes) = false
is_deferral (entry.Fetch stamp y) = false
is_deferral (entry.Post stamp y) = false

-- how often a message is treated by a turn that does not defer it
abbrev pub treatments : Msg → List Entry → ℕ
treatments m [] = 0
treatments m (e ∷ es) = (if is_turn_of m e && not (is_deferral e) then 1 else 0) + treatments m es

-- after these entries it is this message's turn: a fetched message that is more urgent had a turn, and so
-- had one of its priority that was fetched earlier
pub record IsNext (before : List Entry) (m : Msg) : Type 0 where
  pub urgent : (y : Msg) → Contains (fetched before) y → y.prio.0 < m.prio.0 → had_turn y before ≡ true
  pub oldest : (y : Msg) (earlier later : List Msg) → fetched before ≡ earlier ++ m ∷ later → Contains earlier y → y.prio.0 ≡ m.prio.0
      → had_turn y before ≡ true

-- this incarnation is whom a message is for: it is in the slot of the message's target, and has the
-- target's generation, unless that is 0, which means whoever stands there
pub record IsMeant (m : Msg) (x : Incarnation) : Type 0 where
  pub slot : x.slot.0 ≡ m.target.slot.0
  pub generation : (m.target.generation.0 ≡ 0) ⊎ (m.target.generation.0 ≡ x.generation.0)

-- a turn after these entries is that of a message that was fetched, and whose turn it is; it dispatches
-- the message to whom it is for
pub record TurnIsRight (before : List Entry) (turn : Entry) : Type 0 where
  pub message : Msg
  pub was_fetched : Contains (fetched before) message
  pub its_turn : is_turn_of message turn ≡ true
  pub next : IsNext before message
  pub meant : (x : Incarnation) → dispatched_to turn ≡ Some x → IsMeant message x

-- what a controller's journal says of turns
pub record TurnsAreKept (journal : List Entry) : Type 0 where
  -- each turn is right
  pub right : (before after : List Entry) (e : Entry) → journal ≡ before ++ e ∷ after → is_turn e ≡ true → TurnIsRight before e
  -- a fetched message is treated once at most, besides the turns that defer it
  pub treated_once : (m : Msg) → Contains (fetched journal) m → treatments m journal ≤ 1

-- where the run is done, each fetched message had a turn
abbrev pub AllHadTurns : List Entry → Type 0
AllHadTurns journal = (m : Msg) → Contains (fetched journal) m → had_turn m journal ≡ true

-- how many turns there are
abbrev pub turns_in : List Entry → ℕ
turns_in [] = 0
turns_in (e ∷ es) = (if is_turn e then 1 else 0) + turns_in es
