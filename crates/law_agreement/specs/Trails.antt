-- Trails: the system messages, those of priority 0, on their way from one controller to another.
-- The trail from a to b is what b has fetched and not yet treated, then what is in the lane, then
-- what waits in a's outbox, oldest first, as contents: the stamp, which a message gets when it is
-- posted, doesn't count.
-- The law `trails_are_queues`: an event that isn't a turn leaves every trail as it is; a turn
-- takes the front of at most one trail to its controller, and appends what it sends to the trails
-- from its controller. So per trail what leaves and then stands is what stood and then comes.
-- Where all is quiet, all trails are empty. Premises: actors and lines send nothing at priority 0,
-- which is the system's.
use Rattle.std.specs.Prelude.{◌≡◌, ℕ, ◌<◌, ◌==◌, ◌&&◌, Bool, List, [], ◌∷◌, ◌++◌, map, filter, length, Option, Some, None, if◌then◌else◌}
use Rattle.room_kinds.specs.declared.message.Msg.{Msg}
use Rattle.journal.specs.declared.entry.Entry.{Entry}
use Rattle.journal.specs.declared.entry.Entry.TheVariants as entry
use Rattle.room_wiring.specs.declared.tables.Tables.{Tables}
use Rattle.actor_merge.specs.Mail.{lane}
use Rattle.actor_merge.specs.Parties.{Line, Taken, stamped, next_of}
use Rattle.actor_merge.specs.World.{World, Placed, IsQuiet, start, Runs}
use Rattle.actor_world.specs.Behaviour.{Behaviour}
use Rattle.actor_world.specs.Body.{Body}
use Rattle.actor_world.specs.Start.{plant_of}
use Rattle.actor_world.specs.Directories.{IsOpen, AreOpen}

-- the contents of messages from a controller: its number as the sender, and no stamp
unfoldable pub contents : ℕ → List Msg → List Msg
contents a ms = map (stamped a 0) ms

-- whether a message comes from this controller
abbrev pub is_from : ℕ → Msg → Bool
is_from a m = a == m.from.0

-- whether a message is a system message to this controller
abbrev pub is_system_to : ℕ → Msg → Bool
is_system_to b m = (b == m.to.0) && (0 == m.prio.0)

-- of a list the messages that come from a
unfoldable pub from_a : ℕ → List Msg → List Msg
from_a a ms = contents a (filter (is_from a) ms)

-- of what a sends the system messages to b
unfoldable pub system_to : ℕ → ℕ → List Msg → List Msg
system_to a b ms = contents a (filter (is_system_to b) ms)

-- the trail from controller a to controller b
abbrev pub trail : {B : Type 0} → World B → ℕ → ℕ → List Msg
trail w a b =
    from_a a ((w.controllers b).pending 0)
    ++ (contents a (w.lanes (lane a b 0)) ++ system_to a b (w.controllers a).outbox)

-- what is told after messages, one after another, by what each makes of what was told before
abbrev pub hear_all : {X : Type 0} → (Msg → X → X) → List Msg → X → X
hear_all hear [] x = x
hear_all hear (m ∷ ms) x = hear_all hear ms (hear m x)

-- what a message that is taken out of a pending list takes from the trail from a
abbrev pub taken_from : ℕ → Option Taken → List Msg
taken_from a None = []
taken_from a (Some k) = if 0 == k.priority then from_a a (k.message ∷ []) else []

-- what leaves the trail from a to b by an entry of this party, in the world before it
abbrev pub leaves : {B : Type 0} → World B → ℕ → Entry → ℕ → ℕ → List Msg
leaves w party (entry.Turn stamp from sent did notes) a b =
    if b == party then taken_from a (next_of (w.controllers b).pending) else []
leaves w party (entry.Start who state notes) a b = []
leaves w party (entry.Fetch stamp m) a b = []
leaves w party (entry.Post stamp m) a b = []

-- what comes into the trail from a to b by an entry of this party, in the world after it
abbrev pub comes : {B : Type 0} → World B → ℕ → Entry → ℕ → ℕ → List Msg
comes next party (entry.Turn stamp from sent did notes) a b =
    if a == party then system_to a b (next.controllers a).outbox else []
comes next party (entry.Start who state notes) a b = []
comes next party (entry.Fetch stamp m) a b = []
comes next party (entry.Post stamp m) a b = []

-- a run of a model's world over these lines, from its start to this world
abbrev pub RunsTo : {M : Type 0} → Behaviour M → Tables → List Line → List Placed → World (Body M) → Type 0
RunsTo model t lines xs end = Runs (plant_of model t lines) (start (plant_of model t lines)) xs end

-- over every run of the world and the entry after it: each trail is a queue
abbrev pub TrailsAreQueues : Type 0 → Type 0
TrailsAreQueues M =
    (model : Behaviour M) (t : Tables) (lines : List Line) → IsOpen model → AreOpen lines
    → (xs : List Placed) (w : World (Body M)) → RunsTo model t lines xs w
    → (x : Placed) (next : World (Body M)) → Runs (plant_of model t lines) w (x ∷ []) next
    → (a b : ℕ)
    → leaves w x.party x.entry a b ++ trail next a b ≡ trail w a b ++ comes next x.party x.entry a b

-- in a quiet world all trails between controllers are empty
abbrev pub QuietTrailsAreEmpty : Type 0 → Type 0
QuietTrailsAreEmpty M =
    (model : Behaviour M) (t : Tables) (lines : List Line) (w : World (Body M))
    → IsQuiet (plant_of model t lines) w
    → (a b : ℕ) → a < length t.controllers → b < length t.controllers → trail w a b ≡ []
