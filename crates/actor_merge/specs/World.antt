-- The one world of all parties and lanes, where one event happens at a time, and its runs.
-- A world is all controllers' states, the environment and all lanes. `happens` is one event of one
-- party, where it is allowed: the world after it and its entry. `Runs` is a list of entries whose
-- events happen one after another, each where it is allowed, each with the entry that stands
-- there. `IsQuiet`: no lane, pending list or outbox holds a message; deferred messages don't
-- count.
use Rattle.std.specs.Prelude.{◌≡◌, ℕ, zero, suc, max, ◌<◌, true, nat_lt, ◌==◌, drop, List, [], ◌∷◌, ◌++◌, Option, Some, None, option_map, if◌then◌else◌}
use Rattle.room_kinds.specs.declared.message.Msg.{Msg}
use Rattle.journal.specs.declared.entry.Entry.{Entry}
use Rattle.journal.specs.declared.entry.Entry.TheVariants as entry
use Rattle.actor_merge.specs.Mail.{Lane, lane, is_lane, Event, Fetch, Turn, Post, Start, event_of}
use Rattle.actor_merge.specs.Parties.{State, Environment, Plant, put, fetch, turn, post, environment_post, begins}

-- all controllers, the environment, and what is on its way in each lane, oldest first
pub record World (B : Type 0) : Type 0 where
  pub controllers : ℕ → State B
  pub environment : Environment
  pub lanes : Lane → List Msg

-- a party and an entry of its journal
pub record Placed : Type 0 where
  pub party : ℕ
  pub entry : Entry

-- at the start nothing is on its way, and the environment's clock is 0
abbrev pub start : {B : Type 0} → Plant B → World B
start plant = record { controllers = plant.start; environment = record { clock = 0; posted = 0 }; lanes = λ l. [] }

-- quiet: no lane, pending list or outbox holds a message; deferred messages don't count
pub record IsQuiet {B : Type 0} (plant : Plant B) (w : World B) : Type 0 where
  pub lanes : (l : Lane) → w.lanes l ≡ []
  pub pending : (c priority : ℕ) → c < plant.controllers → (w.controllers c).pending priority ≡ []
  pub outbox : (c : ℕ) → c < plant.controllers → (w.controllers c).outbox ≡ []

-- the greatest of this clock and those of so many controllers
abbrev pub latest : {B : Type 0} → (ℕ → State B) → ℕ → ℕ → ℕ
latest states zero clock = clock
latest states (suc c) clock = max (states c).clock (latest states c clock)

-- the greatest clock of all parties
abbrev pub latest_of : {B : Type 0} → Plant B → World B → ℕ
latest_of plant w = latest w.controllers plant.controllers w.environment.clock

-- before the first line of a part after the first the environment's clock becomes the greatest one
unfoldable pub caught_up : {B : Type 0} → Plant B → World B → Environment
caught_up plant w =
    if begins plant w.environment.posted then record w.environment { clock = latest_of plant w } else w.environment

-- lanes with other messages in this lane
unfoldable pub put_lane : (Lane → List Msg) → Lane → List Msg → Lane → List Msg
put_lane lanes at messages l = if is_lane l at then messages else lanes l

-- a fetch takes the front of a lane, if there is one
abbrev pub fetch_front : {B : Type 0} → State B → List Msg → Option (State B × Entry)
fetch_front s [] = None
fetch_front s (m ∷ rest) = Some (fetch s m)

-- the state after a controller's event and its entry, where the event is allowed
abbrev pub controller_does : {B : Type 0} → Plant B → World B → ℕ → Event → Option (State B × Entry)
controller_does plant w c (Fetch sender priority) = fetch_front (w.controllers c) (w.lanes (lane sender c priority))
controller_does plant w c Turn = turn plant c (w.controllers c)
controller_does plant w c Post = post c (w.controllers c)
controller_does plant w c Start = None

-- the same of the environment, which posts alone
abbrev pub environment_does : {B : Type 0} → Plant B → World B → Event → Option (Environment × Entry)
environment_does plant w (Fetch sender priority) = None
environment_does plant w Turn = None
environment_does plant w Post = environment_post plant (caught_up plant w)
environment_does plant w Start = None

-- a posted message goes to the back of its lane
abbrev pub posted_lanes : {B : Type 0} → World B → ℕ → Entry → Lane → List Msg
posted_lanes w party (entry.Post stamp m) = let at = lane party m.to.0 m.prio.0 in put_lane w.lanes at (w.lanes at ++ m ∷ [])
posted_lanes w party (entry.Fetch stamp m) = w.lanes
posted_lanes w party (entry.Turn stamp from sent did notes) = w.lanes
posted_lanes w party (entry.Start who state notes) = w.lanes

-- the lanes after an event with this entry
abbrev pub lanes_after : {B : Type 0} → World B → ℕ → Event → Entry → Lane → List Msg
lanes_after w party (Fetch sender priority) e = let at = lane sender party priority in put_lane w.lanes at (drop 1 (w.lanes at))
lanes_after w party Turn e = w.lanes
lanes_after w party Post e = posted_lanes w party e
lanes_after w party Start e = w.lanes

-- the world after a controller's event, and the entry
abbrev pub controller_after : {B : Type 0} → World B → ℕ → Event → State B × Entry → World B × Entry
controller_after w party event r = (record w { controllers = put w.controllers party r.0; lanes = lanes_after w party event r.1 }, r.1)

-- the world after an event of the environment, and the entry
abbrev pub environment_after : {B : Type 0} → World B → ℕ → Event → Environment × Entry → World B × Entry
environment_after w party event r = (record w { environment = r.0; lanes = lanes_after w party event r.1 }, r.1)

-- one event of one party, where it is allowed: the world after it, and its entry
unfoldable pub happens : {B : Type 0} → Plant B → World B → ℕ → Event → Option (World B × Entry)
happens plant w party event =
    if nat_lt party plant.controllers then option_map (controller_after w party event) (controller_does plant w party event)
    else if party == plant.controllers then option_map (environment_after w party event) (environment_does plant w event)
    else None

-- the environment begins a later part in a quiet world alone
abbrev pub IsReady : {B : Type 0} → Plant B → World B → ℕ → Type 0
IsReady plant w party = party ≡ plant.controllers → begins plant w.environment.posted ≡ true → IsQuiet plant w

-- a run of the world: the events that these entries name happen one after another, each where it is
-- allowed, and each one's entry is the one that stands there
abbrev pub Runs : {B : Type 0} → Plant B → World B → List Placed → World B → Type 0
Runs plant w [] end = end ≡ w
Runs {B} plant w (x ∷ xs) end =
    (next : World B) × IsReady plant w x.party × (happens plant w x.party (event_of x.entry) ≡ Some (next, x.entry)) × Runs plant next xs end
