-- Where a fetched message is: it waits for its turn, or an actor that lives keeps it for later (ROOM:
-- defer), or its controller is done with it.
-- `fetched` is what a journal fetches, in order; `kept` the deferred lists of the slots that live,
-- slot by slot; `done_with` what a controller is done with, as a function of its journal from its
-- start: at each turn the turn's own message, unless the turn says `deferred`, and what the
-- incarnations that the turn destroys had in their deferred lists.
-- `AddsUp`: of each priority, whatever messages one counts, as many as were fetched are in the
-- pending list of that priority, in the deferred lists of the slots that live, and among what is
-- done with. Each pending list holds messages of its own priority alone, and a slot that doesn't
-- live has no deferred messages.
use Rattle.std.specs.Prelude.{◌≡◌, ℕ, ◌+◌, nat_lt, ◌&&◌, Bool, true, false, List, [], ◌∷◌, ◌++◌, filter, flat_map, Option, Some, None, if◌then◌else◌}
use Rattle.std.specs.List.{AllByRecursion, list_any}
use Rattle.room_kinds.specs.declared.message.Msg.{Msg}
use Rattle.room_kinds.specs.declared.command.Command.{Command}
use Rattle.room_kinds.specs.declared.command.Command.TheVariants as commands
use Rattle.room_kinds.specs.declared.numbers.Incarnation.{Incarnation}
use Rattle.journal.specs.declared.entry.Did.{Did}
use Rattle.journal.specs.declared.entry.Did.TheVariants as did
use Rattle.journal.specs.declared.entry.Entry.{Entry}
use Rattle.journal.specs.declared.entry.Entry.TheVariants as entry
use Rattle.room_wiring.specs.declared.tables.Tables.{Tables}
use Rattle.actor_merge.specs.Parties.{State, Line, Plant, Taken, next_of, fetch, turn, post, Replays}
use Rattle.actor_duties.specs.Words.{slots_of}
use Rattle.actor_duties.specs.Lives.{last_of}
use Rattle.actor_world.specs.Behaviour.{Behaviour, Handling, Handled, Deferred, Unhandled}
use Rattle.actor_world.specs.Body.{Body}
use Rattle.actor_world.specs.Start.{plant_of, first_state}
use Rattle.actor_world.specs.Life.{IsModest, destroys}
use Rattle.actor_world.specs.world_laws.Counting.{count, of_priority}

-- the message that an entry fetches
abbrev pub fetches : Entry → List Msg
fetches (entry.Fetch stamp m) = m ∷ []
fetches (entry.Start who state notes) = []
fetches (entry.Turn stamp from sent what notes) = []
fetches (entry.Post stamp m) = []

-- the messages that entries fetch, in order
abbrev pub fetched : List Entry → List Msg
fetched [] = []
fetched (e ∷ es) = fetches e ++ fetched es

-- the messages in the deferred lists of the slots that live, slot by slot
abbrev pub kept : {M : Type 0} → Tables → Body M → List Msg
kept t b = flat_map b.deferred (filter b.frame.lives.lives (slots_of t))

-- whether a turn deferred its message
abbrev pub is_deferred : Did → Bool
is_deferred (did.Deferred who state) = true
is_deferred (did.Handled who state) = false
is_deferred (did.Unhandled who state) = false
is_deferred did.Duty = false
is_deferred (did.Stale target) = false
is_deferred (did.Empty target) = false

-- the message that a turn took out, unless the turn deferred it
abbrev pub finished : Did → Option Taken → List Msg
finished what None = []
finished what (Some k) = if is_deferred what then [] else k.message ∷ []

-- whether an entry destroys what lives in a slot
abbrev pub ends : {M : Type 0} → Body M → Entry → ℕ → Bool
ends b e s = b.frame.lives.lives s && nat_lt 0 (destroys (last_of b.frame.lives s) e)

-- what the incarnations that an entry destroys kept for later
abbrev pub lost : {M : Type 0} → Tables → Body M → Entry → List Msg
lost t b e = flat_map b.deferred (filter (ends b e) (slots_of t))

-- the messages that a controller is done with by an entry, in the state before it: the turn's own,
-- unless it was deferred, and those that the incarnations that the turn destroys had deferred
abbrev pub done_by : {M : Type 0} → Tables → State (Body M) → Entry → List Msg
done_by t s (entry.Turn stamp from sent what notes) =
    finished what (next_of s.pending) ++ lost t s.body (entry.Turn stamp from sent what notes)
done_by t s (entry.Start who state notes) = []
done_by t s (entry.Fetch stamp m) = []
done_by t s (entry.Post stamp m) = []

-- the state that an event leads to, or the same one
abbrev pub state_or : {B : Type 0} → State B → Option (State B × Entry) → State B
state_or s None = s
state_or s (Some r) = r.0

-- the state of a controller after an entry
abbrev pub state_after : {B : Type 0} → Plant B → ℕ → State B → Entry → State B
state_after plant c s (entry.Fetch stamp m) = (fetch s m).0
state_after plant c s (entry.Turn stamp from sent what notes) = state_or s (turn plant c s)
state_after plant c s (entry.Post stamp m) = state_or s (post c s)
state_after plant c s (entry.Start who state notes) = s

-- the messages that a controller is done with, by these entries from this state on
abbrev pub done_with : {M : Type 0} → Plant (Body M) → Tables → ℕ → State (Body M) → List Entry → List Msg
done_with plant t c s [] = []
done_with plant t c s (e ∷ es) = done_by t s e ++ done_with plant t c (state_after plant c s e) es

-- whether a command is `defer`
abbrev pub is_defer : Command → Bool
is_defer commands.Defer = true
is_defer (commands.Send p k signal payload prio) = false
is_defer commands.Recall = false
is_defer commands.RecallAll = false
is_defer (commands.Frame c) = false
is_defer (commands.Name c) = false

-- whether a message came to be kept for later
abbrev pub is_kept : Handling → Bool
is_kept Deferred = true
is_kept Handled = false
is_kept Unhandled = false

-- a behaviour that says of a message that it is deferred exactly where the commands have a `defer`
abbrev pub TellsDefers : {M : Type 0} → Behaviour M → Type 0
TellsDefers {M} model = (x : Incarnation) (machine : M) (m : Msg) → is_kept (model.handle x machine m).result ≡ list_any is_defer (model.handle x machine m).commands

-- whatever messages of a priority one counts: as many as a controller has fetched are in the pending list
-- of that priority, in the deferred lists of the slots that live, and among those that it is done with
pub record AddsUp {M : Type 0} (t : Tables) (came : List Msg) (s : State (Body M)) (done : List Msg) : Type 0 where
  pub counts : (which : Msg → Bool) (p : ℕ)
      → count (of_priority p which) came
      ≡ (count (of_priority p which) (s.pending p) + count (of_priority p which) (kept t s.body)) + count (of_priority p which) done
  -- a pending list holds messages of its own priority alone
  pub ranked : (p : ℕ) → AllByRecursion (λ (m : Msg). m.prio.0 ≡ p) (s.pending p)
  -- a slot that does not live has no deferred messages
  pub empty : (slot : ℕ) → s.body.frame.lives.lives slot ≡ false → s.body.deferred slot ≡ []

-- over every replay of a controller from its start: what it has fetched adds up
abbrev pub FetchedAddsUp : Type 0 → Type 0
FetchedAddsUp M =
    (model : Behaviour M) (t : Tables) (lines : List Line) (c : ℕ) → IsModest model → TellsDefers model
    → (es : List Entry) (end : State (Body M)) → Replays (plant_of model t lines) c (first_state model t c) es end
    → AddsUp t (fetched es) end (done_with (plant_of model t lines) t c (first_state model t c) es)
