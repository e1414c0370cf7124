-- What a controller and the environment do by themselves. A controller runs its actors to
-- completion, one message at a time (ROOM: Selic, Gullekson and Ward 1994); the clocks are
-- Lamport's (1978). What a turn makes of its message is left open here: any function may stand
-- for it, over any kind of state.
-- A controller's state is its mail and a body. The mail is the clock, the number of turns, a
-- pending list for each priority, and the outbox; the body is all else, and only turns change it.
-- Fetch: the front of a lane goes to the back of the pending list of its priority. Turn, where the
-- outbox is empty: of the pending lists from 0 to 5 the first that isn't empty gives its front,
-- and the message is treated to completion. Post: the front of the outbox goes to the back of its
-- lane, with its sender's number and the event's stamp. What a turn sends, the deferred messages
-- that come back, what the journal says of it and its notes are given by one function of the
-- plant, `treat`.
-- Stamps: a fetch is stamped one more than the greater of the clock and the message's stamp, every
-- other event one more than the clock, and the stamp becomes the clock. The environment posts its
-- lines in order; before the first line of a part after the first, all must be quiet, and its
-- clock first becomes the greatest clock of all parties.
-- `Replays`: a list of entries is a controller's own replay from one state to another, if it may
-- do them one after another by itself; `EnvironmentReplays` is the same of the environment. The
-- law `replays_rise`: in every replay stamps rise strictly from above the clock before it, each
-- fetch is stamped above the post of its message, and each post carries its entry's stamp.
use Rattle.std.specs.Prelude.{◌≡◌, ℕ, zero, suc, Bool, not, ◌==◌, ◌+◌, max, List, [], ◌∷◌, ◌++◌, filter, Option, Some, None, slice_get, if◌then◌else◌}
use Rattle.std.specs.Option.{option_map_or}
use Rattle.room_kinds.specs.declared.message.Msg.{Msg}
use Rattle.room_kinds.specs.declared.note.Note.{Note}
use Rattle.journal.specs.declared.entry.Did.{Did}
use Rattle.journal.specs.declared.entry.Entry.{Entry}
use Rattle.journal.specs.declared.entry.Entry.TheVariants as entry

-- a controller's state: its mail, and the body of all else, which turns alone change
pub record State (B : Type 0) : Type 0 where
  pub clock : ℕ
  pub turns : ℕ
  -- for each priority the messages that wait for their turn
  pub pending : ℕ → List Msg
  -- the messages that wait to be posted
  pub outbox : List Msg
  pub body : B

-- what a turn makes of a body and the message that it took out
pub record Treated (B : Type 0) : Type 0 where
  pub body : B
  -- the messages for the outbox, in order
  pub sent : List Msg
  -- the deferred messages that come back, first the one that will be in front
  pub back : List Msg
  pub did : Did
  pub notes : List Note

-- a message of the environment, and the part of the run in which it is posted, from 1
pub record Line : Type 0 where
  pub part : ℕ
  pub message : Msg

-- the environment: its clock, and how many lines it has posted
pub record Environment : Type 0 where
  pub clock : ℕ
  pub posted : ℕ

-- what a run is made of: controllers from 0 to this number, each with the state in which it starts
-- and what its turns do, and the lines that the environment posts. The environment is the party
-- with the number of the controllers.
pub record Plant (B : Type 0) : Type 0 where
  pub controllers : ℕ
  pub lines : List Line
  pub start : ℕ → State B
  pub treat : ℕ → B → Msg → Treated B

-- a list of lists with another list at this number
unfoldable pub put : {A : Type 0} → (ℕ → A) → ℕ → A → ℕ → A
put f at value n = if n == at then value else f n

-- a message with its sender's number, as it is posted at this time
abbrev pub stamped : ℕ → ℕ → Msg → Msg
stamped party stamp m = record m { from = record { 0 = party }; stamp = record { 0 = stamp } }

-- a message that comes is later than its post and than all that its receiver did
abbrev pub fetch_stamp : {B : Type 0} → State B → Msg → ℕ
fetch_stamp s m = max s.clock m.stamp.0 + 1

-- Fetch: a message goes to the back of the pending list of its priority
unfoldable pub fetch : {B : Type 0} → State B → Msg → State B × Entry
fetch s m = (
  record s { clock = fetch_stamp s m; pending = put s.pending m.prio.0 (s.pending m.prio.0 ++ m ∷ []) },
  entry.Fetch (record { 0 = fetch_stamp s m }) m,
)

-- a message that was taken out of a pending list, and what is left of the list
pub record Taken : Type 0 where
  pub priority : ℕ
  pub message : Msg
  pub rest : List Msg

-- the front of this list, or else what later lists give
abbrev pub front_or : ℕ → List Msg → Option Taken → Option Taken
front_or priority [] later = later
front_or priority (m ∷ rest) later = Some (record { priority = priority; message = m; rest = rest })

-- the front of the first list that isn't empty, of so many from this priority on
unfoldable pub lowest : (ℕ → List Msg) → ℕ → ℕ → Option Taken
lowest pending at zero = None
lowest pending at (suc k) = front_or at (pending at) (lowest pending (at + 1) k)

-- the message whose turn it is: of the priorities 0 to 5 the lowest number goes first
abbrev pub next_of : (ℕ → List Msg) → Option Taken
next_of pending = lowest pending 0 6

-- pending lists with messages put back in front, each in the list of its priority
unfoldable pub put_back : List Msg → (ℕ → List Msg) → ℕ → List Msg
put_back back pending priority = filter (λ (m : Msg). m.prio.0 == priority) back ++ pending priority

-- the state after a turn that took this message out, and its entry
abbrev pub turned : {B : Type 0} → State B → Taken → Treated B → State B × Entry
turned s t done = (
  record {
    clock = s.clock + 1;
    turns = s.turns + 1;
    pending = put_back done.back (put s.pending t.priority t.rest);
    outbox = done.sent;
    body = done.body;
  },
  entry.Turn (record { 0 = s.clock + 1 }) t.message.from t.message.stamp done.did done.notes,
)

-- a turn is allowed where nothing waits to be posted and a message is pending
abbrev pub turn_with : {B : Type 0} → Plant B → ℕ → State B → List Msg → Option Taken → Option (State B × Entry)
turn_with plant c s [] None = None
turn_with plant c s [] (Some t) = Some (turned s t (plant.treat c s.body t.message))
turn_with plant c s (m ∷ ms) t = None

-- Turn: the message whose turn it is, is taken out and treated to completion
unfoldable pub turn : {B : Type 0} → Plant B → ℕ → State B → Option (State B × Entry)
turn plant c s = turn_with plant c s s.outbox (next_of s.pending)

-- a post takes the front of the outbox, if there is one
abbrev pub post_front : {B : Type 0} → ℕ → State B → List Msg → Option (State B × Entry)
post_front c s [] = None
post_front c s (m ∷ rest) =
    Some (record s { clock = s.clock + 1; outbox = rest }, entry.Post (record { 0 = s.clock + 1 }) (stamped c (s.clock + 1) m))

-- Post: the front of the outbox goes on its way with this event's stamp
unfoldable pub post : {B : Type 0} → ℕ → State B → Option (State B × Entry)
post c s = post_front c s s.outbox

-- a line that is there is posted
abbrev pub post_line : ℕ → Environment → Option Line → Option (Environment × Entry)
post_line party v None = None
post_line party v (Some line) =
    Some (record { clock = v.clock + 1; posted = v.posted + 1 }, entry.Post (record { 0 = v.clock + 1 }) (stamped party (v.clock + 1) line.message))

-- the environment posts its next line
unfoldable pub environment_post : {B : Type 0} → Plant B → Environment → Option (Environment × Entry)
environment_post plant v = post_line plant.controllers v (slice_get plant.lines v.posted)

-- whether a controller in this state may do by itself what the entry says, and the state after it
abbrev pub Does : {B : Type 0} → Plant B → ℕ → State B → Entry → State B → Type 0
Does plant c s (entry.Start who state notes) next = ⊥
Does plant c s (entry.Fetch stamp m) next = fetch s m ≡ (next, entry.Fetch stamp m)
Does plant c s (entry.Turn stamp from sent did notes) next = turn plant c s ≡ Some (next, entry.Turn stamp from sent did notes)
Does plant c s (entry.Post stamp m) next = post c s ≡ Some (next, entry.Post stamp m)

-- these entries are a controller's own replay, from this state to that one: it may do them one after
-- another, whatever the other parties do, so long as what it fetches comes
abbrev pub Replays : {B : Type 0} → Plant B → ℕ → State B → List Entry → State B → Type 0
Replays plant c s [] end = end ≡ s
Replays {B} plant c s (e ∷ es) end = (next : State B) × Does plant c s e next × Replays plant c next es end

-- the same of the environment
abbrev pub EnvironmentReplays : {B : Type 0} → Plant B → Environment → List Entry → Environment → Type 0
EnvironmentReplays plant v [] end = end ≡ v
EnvironmentReplays plant v (e ∷ es) end = (next : Environment) × (environment_post plant v ≡ Some (next, e)) × EnvironmentReplays plant next es end

-- the part of a line; where there is no line, part 1
abbrev pub part_of : {B : Type 0} → Plant B → ℕ → ℕ
part_of plant line = option_map_or (λ (x : Line). x.part) (slice_get plant.lines line) 1

-- the part before a line: part 1 before the first
abbrev pub part_before : {B : Type 0} → Plant B → ℕ → ℕ
part_before plant zero = 1
part_before plant (suc line) = part_of plant line

-- whether this line is the first of a part after the first
unfoldable pub begins : {B : Type 0} → Plant B → ℕ → Bool
begins plant line = not (part_of plant line == part_before plant line)
