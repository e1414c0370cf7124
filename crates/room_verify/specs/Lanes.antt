-- The table of the messages that are on their way, as contracts see it: a queue for each lane.
-- The lanes lead from the controllers and the environment, the party after the last of them, to the controllers,
-- at six priorities. They stand in the order of receiver, sender and priority.
use Rattle.std.specs.Prelude.{◌≡◌, ℕ, ◌+◌, ◌*◌, ◌<◌, ◌&&◌, nat_lt, Bool, List, [], ◌∷◌, ◌++◌, length, slice_index_or, if◌then◌else◌}
use Rattle.std.specs.List.{AllByRecursion}
use Rattle.room_kinds.specs.declared.message.Msg.{Msg}
use Rattle.actor_merge.specs.Mail.{Lane, lane}
use Rattle.actor_merge.specs.World.{put_lane}
use Rattle.controller_mail.specs.Within.{IsAnswerable}

-- the queues of the lanes between so many controllers and the environment, oldest message first
pub record LaneQueues : Type 0 where
  pub controllers : ℕ
  pub queues : List (List Msg)

-- whether a lane is one of these
abbrev pub is_among : ℕ → Lane → Bool
is_among n l = nat_lt l.receiver n && nat_lt l.sender (n + 1) && nat_lt l.priority 6

-- where its queue stands
abbrev pub place_of : ℕ → Lane → ℕ
place_of n l = (l.receiver * (n + 1) + l.sender) * 6 + l.priority

-- the messages in each lane; in one that isn't among these, none
unfoldable pub lanes_in : LaneQueues → Lane → List Msg
lanes_in q l = if is_among q.controllers l then slice_index_or q.queues (place_of q.controllers l) [] else []

-- a message that a controller may fetch, among so many: of one of the six priorities, and from a controller if it is
-- of the system level, where services reply
pub record IsFetchable (n : ℕ) (m : Msg) : Type 0 where
  pub priority : m.prio.0 < 6
  pub answerable : IsAnswerable n m

-- a queue for each lane, each with messages that may be fetched
pub record AreLanes (n : ℕ) (queues : List (List Msg)) : Type 0 where
  pub count : length queues ≡ n * (n + 1) * 6
  pub fetchable : (k : ℕ) → AllByRecursion (IsFetchable n) (slice_index_or queues k [])

-- the front of a lane was taken out, and may be fetched
pub record TakesFrom (old new : LaneQueues) (at : Lane) (m : Msg) : Type 0 where
  pub rest : List Msg
  pub front : lanes_in old at ≡ m ∷ rest
  pub lanes : lanes_in new ≡ put_lane (lanes_in old) at rest
  pub controllers : new.controllers ≡ old.controllers
  pub fetchable : IsFetchable old.controllers m

-- the lane of a message, as it is posted
abbrev pub lane_of : Msg → Lane
lane_of m = lane m.from.0 m.to.0 m.prio.0

-- a message was put at the back of its lane
pub record PutsInto (old new : LaneQueues) (m : Msg) : Type 0 where
  pub lanes : lanes_in new ≡ put_lane (lanes_in old) (lane_of m) (lanes_in old (lane_of m) ++ m ∷ [])
  pub controllers : new.controllers ≡ old.controllers
