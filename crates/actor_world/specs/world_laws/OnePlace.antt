-- A fetched message is in one place alone.
-- `InOnePlace`: a message stands once in the pending list of its priority, or once in the deferred
-- lists of the slots that live, or once among what is done with, and in no other pending list; and
-- where it is deferred, it stands in the list of one live incarnation and of no other slot of the
-- wiring.
-- The law `stands_once`: over every replay of a controller from its start, what it has fetched
-- adds up; in every run of the world it does at each controller, no message is fetched twice, be
-- it by one controller or by two, and each message that a controller has fetched is in one place
-- of it alone, and in no place of another controller. What a live incarnation keeps, it deferred
-- itself, and no more often than it deferred it. Premises: those of `lives_once`, and that a
-- behaviour says of a message that it is deferred exactly where its commands have a `defer`.
use Rattle.std.specs.Prelude.{◌≡◌, ◌≢◌, ℕ, ◌+◌, ◌≤◌, ◌<◌, true, List, [], ◌∷◌, ◌++◌, length, Contains}
use Rattle.room_kinds.specs.declared.message.Msg.{Msg}
use Rattle.room_kinds.specs.declared.numbers.Incarnation.{Incarnation}
use Rattle.room_wiring.specs.declared.tables.Tables.{Tables}
use Rattle.actor_merge.specs.Parties.{State, Line}
use Rattle.actor_merge.specs.World.{World, Placed, start, Runs}
use Rattle.actor_merge.specs.Merge.{entries_of}
use Rattle.actor_duties.specs.Lives.{is_live}
use Rattle.actor_world.specs.Behaviour.{Behaviour}
use Rattle.actor_world.specs.Body.{Body}
use Rattle.actor_world.specs.Start.{plant_of, first_state}
use Rattle.actor_world.specs.Life.{IsModest}
use Rattle.actor_world.specs.world_laws.Counting.{times}
use Rattle.actor_world.specs.world_laws.Whereabouts.{fetches, fetched, kept, done_with, TellsDefers, AddsUp}

-- the messages that all parties fetch, in order
abbrev pub all_fetched : List Placed → List Msg
all_fetched [] = []
all_fetched (x ∷ xs) = fetches x.entry ++ all_fetched xs

-- a message is in one place of a controller alone: once in the pending list of its priority, or once in
-- the deferred lists of the slots that live, or once among what is done with
pub record InOnePlace {M : Type 0} (t : Tables) (m : Msg) (s : State (Body M)) (done : List Msg) : Type 0 where
  pub one : (times m (s.pending m.prio.0) + times m (kept t s.body)) + times m done ≡ 1
  pub nowhere_else : (p : ℕ) → p ≢ m.prio.0 → times m (s.pending p) ≡ 0
  -- where it is deferred, one live incarnation alone keeps it
  pub keeper : times m (kept t s.body) ≡ 1
      → (x : Incarnation) × (is_live s.body.frame.lives x ≡ true) × (times m (s.body.deferred x.slot.0) ≡ 1)
      × ((slot : ℕ) → slot < length t.slots → slot ≢ x.slot.0 → times m (s.body.deferred slot) ≡ 0)

-- a message is in no place of a controller
pub record InNoPlace {M : Type 0} (t : Tables) (m : Msg) (s : State (Body M)) (done : List Msg) : Type 0 where
  pub pending : (p : ℕ) → times m (s.pending p) ≡ 0
  pub deferred : times m (kept t s.body) ≡ 0
  pub over : times m done ≡ 0

-- what a controller is done with in a run of the world
abbrev pub done_in : {M : Type 0} → Behaviour M → Tables → List Line → ℕ → List Placed → List Msg
done_in model t lines c xs = done_with (plant_of model t lines) t c (first_state model t c) (entries_of c xs)

-- a run of the world so far: no message is fetched twice; one that a controller has fetched is in one
-- place of that controller alone, and in no place of another
pub record StandsOnce {M : Type 0} (model : Behaviour M) (t : Tables) (lines : List Line) (xs : List Placed) (end : World (Body M)) : Type 0 where
  pub fetched_once : (m : Msg) → times m (all_fetched xs) ≤ 1
  pub place : (c : ℕ) → c < length t.controllers → (m : Msg) → Contains (fetched (entries_of c xs)) m
      → InOnePlace t m (end.controllers c) (done_in model t lines c xs)
  pub elsewhere : (c d : ℕ) → d < length t.controllers → d ≢ c → (m : Msg) → Contains (fetched (entries_of c xs)) m
      → InNoPlace t m (end.controllers d) (done_in model t lines d xs)

-- over every run of the world: what each controller has fetched adds up, and each fetched message stands once
abbrev pub RunsStandOnce : Type 0 → Type 0
RunsStandOnce M =
    (model : Behaviour M) (t : Tables) (lines : List Line) → IsModest model → TellsDefers model
    → (xs : List Placed) (end : World (Body M)) → Runs (plant_of model t lines) (start (plant_of model t lines)) xs end
    → ((c : ℕ) → c < length t.controllers → AddsUp t (fetched (entries_of c xs)) (end.controllers c) (done_in model t lines c xs))
    × StandsOnce model t lines xs end
