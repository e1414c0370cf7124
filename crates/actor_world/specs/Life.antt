-- The lives of incarnations, as journals tell them.
-- They are the entries that create and destroy an incarnation, and to whom a turn's message was
-- dispatched. The law `lives_once`: in every run of the world, and in every replay of a controller
-- from its start, each incarnation has one create entry at most and one destroy entry at most,
-- which doesn't stand before its create entry; one that lives or has lived has exactly one create
-- entry, and exactly one destroy entry if it lives no more; every other has neither; and no journal
-- but that of its slot's owner has any of them. A message is dispatched only to an incarnation that
-- has a create entry before and no destroy entry before; that incarnation lives, stands in the
-- slot of the message's target, and has the target's generation, unless that is 0. Premise: the
-- behaviour's own notes say nothing of lives. The law holds over any kind of machine and any tables.
use Rattle.std.specs.Prelude.{Bool, true, false, not, ◌&&◌, ◌||◌, ◌==◌, nat_lt, nat_le, length, ◌⊎◌, ◌≡◌, ℕ, ◌+◌, ◌≤◌, ◌<◌, List, [], ◌∷◌, ◌++◌, Option, Some, None, if◌then◌else◌}
use Rattle.room_kinds.specs.declared.message.Msg.{Msg}
use Rattle.room_kinds.specs.declared.note.Note.{Note}
use Rattle.room_kinds.specs.declared.note.Note.TheVariants as notes
use Rattle.room_kinds.specs.declared.numbers.Incarnation.{Incarnation}
use Rattle.room_kinds.specs.declared.numbers.Stamp.{Stamp}
use Rattle.room_kinds.specs.declared.numbers.ControllerId.{ControllerId}
use Rattle.journal.specs.declared.entry.Did.{Did}
use Rattle.journal.specs.declared.entry.Did.TheVariants as did
use Rattle.journal.specs.declared.entry.Entry.{Entry}
use Rattle.journal.specs.declared.entry.Entry.TheVariants as entry
use Rattle.room_wiring.specs.declared.tables.Tables.{Tables}
use Rattle.actor_merge.specs.Parties.{Line, State, Taken, next_of, Does, Replays}
use Rattle.actor_merge.specs.World.{World, Placed, start, Runs}
use Rattle.actor_merge.specs.Merge.{entries_of}
use Rattle.actor_duties.specs.State.{Lives}
use Rattle.actor_duties.specs.Lives.{is_live}
use Rattle.actor_duties.specs.Words.{is_incarnation, is_own}
use Rattle.actor_world.specs.Behaviour.{Behaviour}
use Rattle.actor_world.specs.Body.{Body}
use Rattle.actor_world.specs.Start.{plant_of, first_state, start_entries}

-- 1 where two incarnations are one, else 0
abbrev pub once : Incarnation → Incarnation → ℕ
once x y = if is_incarnation x y then 1 else 0

-- how often notes say that an incarnation came up
abbrev pub ups : Incarnation → List Note → ℕ
ups x [] = 0
ups x (notes.Up who state ∷ ns) = once who x + ups x ns
ups x (notes.Down who lost ∷ ns) = ups x ns
ups x (notes.Zero ∷ ns) = ups x ns
ups x (notes.NoMessage ∷ ns) = ups x ns
ups x (notes.Unbound port place ∷ ns) = ups x ns
ups x (notes.Recall count ∷ ns) = ups x ns

-- how often notes say that an incarnation went down
abbrev pub downs : Incarnation → List Note → ℕ
downs x [] = 0
downs x (notes.Down who lost ∷ ns) = once who x + downs x ns
downs x (notes.Up who state ∷ ns) = downs x ns
downs x (notes.Zero ∷ ns) = downs x ns
downs x (notes.NoMessage ∷ ns) = downs x ns
downs x (notes.Unbound port place ∷ ns) = downs x ns
downs x (notes.Recall count ∷ ns) = downs x ns

-- how often an entry creates an incarnation: a start does, and a turn that notes it as up
abbrev pub creates : Incarnation → Entry → ℕ
creates x (entry.Start who state ns) = once who x
creates x (entry.Turn stamp from sent what ns) = ups x ns
creates x (entry.Fetch stamp m) = 0
creates x (entry.Post stamp m) = 0

-- how often an entry destroys an incarnation: a turn that notes it as down
abbrev pub destroys : Incarnation → Entry → ℕ
destroys x (entry.Turn stamp from sent what ns) = downs x ns
destroys x (entry.Start who state ns) = 0
destroys x (entry.Fetch stamp m) = 0
destroys x (entry.Post stamp m) = 0

-- how often entries create an incarnation
abbrev pub created : Incarnation → List Entry → ℕ
created x [] = 0
created x (e ∷ es) = creates x e + created x es

-- how often entries destroy an incarnation
abbrev pub destroyed : Incarnation → List Entry → ℕ
destroyed x [] = 0
destroyed x (e ∷ es) = destroys x e + destroyed x es

-- the incarnation that a turn's message was dispatched to
abbrev pub actor_of : Did → Option Incarnation
actor_of did.Duty = None
actor_of (did.Handled who state) = Some who
actor_of (did.Deferred who state) = Some who
actor_of (did.Unhandled who state) = Some who
actor_of (did.Stale target) = None
actor_of (did.Empty target) = None

-- the same of an entry
abbrev pub dispatched_to : Entry → Option Incarnation
dispatched_to (entry.Turn stamp from sent what ns) = actor_of what
dispatched_to (entry.Start who state ns) = None
dispatched_to (entry.Fetch stamp m) = None
dispatched_to (entry.Post stamp m) = None

-- notes that say nothing of lives
abbrev pub SaysNothing : List Note → Type 0
SaysNothing ns = (x : Incarnation) → (ups x ns ≡ 0) × (downs x ns ≡ 0)

-- a behaviour whose own notes say nothing of lives
pub record IsModest {M : Type 0} (model : Behaviour M) : Type 0 where
  pub begin : (x : Incarnation) → SaysNothing (model.begin x).notes
  pub handle : (x : Incarnation) (machine : M) (m : Msg) → SaysNothing (model.handle x machine m).notes

-- what a controller's journal so far says of an incarnation
pub record LivesOnce (x : Incarnation) (es : List Entry) : Type 0 where
  pub once_created : created x es ≤ 1
  pub once_destroyed : destroyed x es ≤ created x es

-- 1 where a generation was made in a slot whose last generation is this one, else 0
abbrev pub born : ℕ → ℕ → ℕ
born g last = if nat_lt 0 g && nat_le g last then 1 else 0

-- 1 where a generation has ended in a slot whose last generation is this one, and lives or doesn't
abbrev pub dead : ℕ → ℕ → Bool → ℕ
dead g last lives = if nat_lt 0 g && (nat_lt g last || ((g == last) && not lives)) then 1 else 0

-- 1 where an incarnation lives or has lived, else 0
abbrev pub born_in : Lives → Incarnation → ℕ
born_in l x = born x.generation.0 (l.generation x.slot.0)

-- 1 where an incarnation has lived and lives no more, else 0
abbrev pub dead_in : Lives → Incarnation → ℕ
dead_in l x = dead x.generation.0 (l.generation x.slot.0) (l.lives x.slot.0)

-- what the journal of controller c so far says of an incarnation is how the controller's lives stand: one
-- that lives or has lived has one create entry, and one destroy entry if it lives no more; every other has
-- neither, and neither has one in the slot of another controller
pub record TellsLives (t : Tables) (c : ℕ) (l : Lives) (x : Incarnation) (es : List Entry) : Type 0 where
  pub once_created : created x es ≡ born_in l x
  pub once_destroyed : destroyed x es ≡ dead_in l x
  pub living : is_live l x ≡ true → (created x es ≡ 1) × (destroyed x es ≡ 0)
  pub elsewhere : is_own t c x.slot.0 ≡ false → (created x es ≡ 0) × (destroyed x es ≡ 0)

-- over every replay of a controller from its start: its journal so far tells its lives
abbrev pub ReplaysTellLives : Type 0 → Type 0
ReplaysTellLives M =
    (model : Behaviour M) (t : Tables) (lines : List Line) (c : ℕ) → IsModest model
    → (es : List Entry) (s : State (Body M)) → Replays (plant_of model t lines) c (first_state model t c) es s
    → (x : Incarnation) → TellsLives t c s.body.frame.lives x (start_entries model t c ++ es)

-- over every run of the world from its start: each controller's journal tells its lives
abbrev pub RunsTellLives : Type 0 → Type 0
RunsTellLives M =
    (model : Behaviour M) (t : Tables) (lines : List Line) → IsModest model
    → (xs : List Placed) (end : World (Body M)) → Runs (plant_of model t lines) (start (plant_of model t lines)) xs end
    → (c : ℕ) → c < length t.controllers → (x : Incarnation)
    → TellsLives t c (end.controllers c).body.frame.lives x (start_entries model t c ++ entries_of c xs)

-- over every replay of a controller from its start: each incarnation is created once at most, and
-- destroyed once at most and not before it was created; and what a message is dispatched to was
-- created before and not destroyed before
abbrev pub IncarnationsLiveOnce : Type 0 → Type 0
IncarnationsLiveOnce M =
    (model : Behaviour M) (t : Tables) (lines : List Line) (c : ℕ) → IsModest model
    → (before : List Entry) (s : State (Body M)) → Replays (plant_of model t lines) c (first_state model t c) before s
    → ((x : Incarnation) → LivesOnce x (start_entries model t c ++ before))
    × ((e : Entry) (after : List Entry) (end : State (Body M)) (x : Incarnation)
    → Replays (plant_of model t lines) c (first_state model t c) (before ++ e ∷ after) end → dispatched_to e ≡ Some x
    → (created x (start_entries model t c ++ before) ≡ 1) × (destroyed x (start_entries model t c ++ before) ≡ 0))

-- the same in every run of the world from its start: of the entries of each controller, and of those
-- before any entry that dispatches a message
abbrev pub RunsLiveOnce : Type 0 → Type 0
RunsLiveOnce M =
    (model : Behaviour M) (t : Tables) (lines : List Line) → IsModest model
    → (c : ℕ) → c < length t.controllers → (before : List Placed) (x : Incarnation)
    → ((end : World (Body M)) → Runs (plant_of model t lines) (start (plant_of model t lines)) before end
    → LivesOnce x (start_entries model t c ++ entries_of c before))
    × ((e : Entry) (after : List Placed) (end : World (Body M))
    → Runs (plant_of model t lines) (start (plant_of model t lines)) (before ++ record { party = c; entry = e } ∷ after) end
    → dispatched_to e ≡ Some x
    → (created x (start_entries model t c ++ entries_of c before) ≡ 1) × (destroyed x (start_entries model t c ++ entries_of c before) ≡ 0))

-- a message goes to this incarnation: it is in the message's slot and lives there, and the message means
-- whoever stands there or this generation
pub record IsFor (m : Msg) (x : Incarnation) (l : Lives) : Type 0 where
  pub slot : x.slot.0 ≡ m.target.slot.0
  pub meant : (m.target.generation.0 ≡ 0) ⊎ (m.target.generation.0 ≡ x.generation.0)
  pub lives : is_live l x ≡ true

-- what a turn dispatches its message to is what the message is for; the turn names the message by its
-- sender and its stamp
abbrev pub DispatchesAsMeant : Type 0 → Type 0
DispatchesAsMeant M =
    (model : Behaviour M) (t : Tables) (lines : List Line) (c : ℕ) (s next : State (Body M)) (stamp : Stamp) (from : ControllerId) (sent : Stamp) (what : Did) (ns : List Note) (x : Incarnation)
    → Does (plant_of model t lines) c s (entry.Turn stamp from sent what ns) next → actor_of what ≡ Some x
    → (k : Taken) × (next_of s.pending ≡ Some k) × (k.message.from ≡ from) × (k.message.stamp ≡ sent) × IsFor k.message x s.body.frame.lives
