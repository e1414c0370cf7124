-- What journals say of messages: what was posted is fetched in order, and once.
-- A message is posted by a party and fetched by a controller; the parties are the controllers and
-- the environment, which has the number after the last controller. A message is named by its
-- sender and its stamp.
use Rattle.std.specs.Prelude.{◌≡◌, ℕ, ◌≤◌, ◌==◌, ◌&&◌, Bool, true, false, List, [], ◌∷◌, ◌++◌, filter, flat_map, Contains, Option, Some, None}
use Rattle.std.specs.List.{range_with_len}
use Rattle.room_kinds.specs.declared.message.Msg.{Msg}
use Rattle.room_kinds.specs.declared.numbers.Endpoint.{Endpoint}
use Rattle.journal.specs.declared.entry.Entry.{Entry}
use Rattle.journal.specs.declared.entry.Entry.TheVariants as entry
use Rattle.actor_duties.specs.Words.{is_endpoint}
use Rattle.actor_world.specs.world_laws.Counting.{times}
use Rattle.actor_world.specs.world_laws.Whereabouts.{fetched}

-- the message that an entry posts
abbrev pub posts : Entry → List Msg
posts (entry.Post stamp m) = m ∷ []
posts (entry.Start who state notes) = []
posts (entry.Fetch stamp m) = []
posts (entry.Turn stamp from sent did notes) = []

-- the messages that entries post, in order
abbrev pub posted : List Entry → List Msg
posted [] = []
posted (e ∷ es) = posts e ++ posted es

-- the way of a message: the party that posts it, the controller that fetches it, its priority, and the
-- places of ports from which and to which it goes; the environment's messages have no source
pub record Way : Type 0 where
  pub sender : ℕ
  pub receiver : ℕ
  pub priority : ℕ
  pub source : Option Endpoint
  pub target : Endpoint

-- whether two sources are one
abbrev pub is_source : Option Endpoint → Option Endpoint → Bool
is_source None None = true
is_source None (Some b) = false
is_source (Some a) None = false
is_source (Some a) (Some b) = is_endpoint a b

-- whether a message is from this party, to that controller, and of this priority
abbrev pub is_between : Way → Msg → Bool
is_between w m = (m.from.0 == w.sender) && (m.to.0 == w.receiver) && (m.prio.0 == w.priority)

-- whether a message goes this way
abbrev pub goes : Way → Msg → Bool
goes w m = is_between w m && (is_source m.source w.source && is_endpoint m.target w.target)

-- of these messages those that go this way
abbrev pub along : Way → List Msg → List Msg
along w ms = filter (goes w) ms

-- these messages are the first of those
pub record IsPrefix (front all : List Msg) : Type 0 where
  pub rest : List Msg
  pub whole : front ++ rest ≡ all

-- the messages that so many controllers fetch
abbrev pub fetched_by_all : ℕ → (ℕ → List Entry) → List Msg
fetched_by_all controllers journals = flat_map (λ (c : ℕ). fetched (journals c)) (range_with_len 0 controllers)

-- what the journals of so many controllers and the environment say of messages
pub record MailIsKept (controllers : ℕ) (journals : ℕ → List Entry) : Type 0 where
  -- of the messages of one way those that were fetched are the first of those that were posted, in order
  pub in_order : (w : Way) → IsPrefix (along w (fetched (journals w.receiver))) (along w (posted (journals w.sender)))
  -- what a controller fetches was posted to it, by the sender that the message names
  pub fetched_was_posted : (c : ℕ) (m : Msg) → Contains (fetched (journals c)) m → (m.to.0 ≡ c) × Contains (posted (journals m.from.0)) m
  -- a posted message names its sender
  pub names_sender : (party : ℕ) (m : Msg) → Contains (posted (journals party)) m → m.from.0 ≡ party
  -- no two posts have one name
  pub posted_once : (party : ℕ) (m : Msg) → times m (posted (journals party)) ≤ 1
  -- no message is fetched twice, be it by one controller or by two
  pub fetched_once : (m : Msg) → times m (fetched_by_all controllers journals) ≤ 1

-- every posted message was fetched
pub record AllIsFetched (journals : ℕ → List Entry) : Type 0 where
  -- of each way what was fetched is what was posted, in order
  pub along_each : (w : Way) → along w (fetched (journals w.receiver)) ≡ along w (posted (journals w.sender))
  -- and so each message
  pub each : (party : ℕ) (m : Msg) → Contains (posted (journals party)) m → Contains (fetched (journals m.to.0)) m
