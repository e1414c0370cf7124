-- What contracts see of a pass to a shared box.
use Rattle.std.specs.Prelude.{ℕ, ◌+◌, ◌<◌, ◌≤◌, ◌≡◌, ◌==◌, if◌then◌else◌, Bool, true, false, List, [], ◌∷◌, ◌++◌, map}
use Rattle.std.specs.Arc.{arc_value}
use Rattle.room_kinds.specs.declared.message.Msg.{Msg}
use Rattle.mail_seg.specs.declared.rule.Posted.{Posted}
use Rattle.mail_seg.specs.declared.rule.PassView.{PassView}
use Rattle.mail_seg.specs.declared.shared_box.BoxPass.{BoxPass}
use Rattle.mail_seg.specs.Addressed.{addressed}

-- which party posted through a pass, and what
pub record Sent : Type 0 where
  pub party : ℕ
  pub list : List Msg

-- whose box it is at which priority, by which queue; whether the pass takes, and from which party on it has the right
-- to post; what it posted, by party; and what it took, whoever posted that
pub record Side : Type 0 where
  pub to : ℕ
  pub prio : ℕ
  pub queue : ℕ × ℕ
  pub takes : Bool
  pub next : ℕ
  pub posts : List Sent
  pub got : List Msg

abbrev pub sent_of : ℕ → ℕ → Posted → Sent
sent_of to prio p = record { party = p.party; list = map (addressed to prio) p.list }

abbrev pub side_of : ℕ → ℕ → ℕ × ℕ → PassView → Side
side_of to prio queue v = record {
  to = to;
  prio = prio;
  queue = queue;
  takes = v.takes;
  next = v.next;
  posts = map (sent_of to prio) v.posts;
  got = map (addressed to prio) v.got;
}

abbrev pub view : BoxPass → PassView
view b = b.pass.me.view.client

abbrev pub queue_of : BoxPass → ℕ × ℕ
queue_of b = (arc_value b.queue).ruled.web

abbrev pub side : BoxPass → Side
side b = side_of b.to b.prio (queue_of b) (view b)

-- the messages of one party
abbrev pub from_sender : ℕ → List Msg → List Msg
from_sender s [] = []
from_sender s (m ∷ ms) = if m.from.0 == s then m ∷ from_sender s ms else from_sender s ms

-- the first pass of a box, which takes and may still split off a pass for each party
abbrev pub first_side : ℕ → ℕ → ℕ × ℕ → Side
first_side to prio queue = record { to = to; prio = prio; queue = queue; takes = true; next = 0; posts = []; got = [] }

-- a pass of one party, which posts alone
abbrev pub poster_side : ℕ → ℕ → ℕ × ℕ → ℕ → Side
poster_side to prio queue s = record { to = to; prio = prio; queue = queue; takes = false; next = 0; posts = record { party = s; list = [] } ∷ []; got = [] }

-- a pass that posts for nobody and takes nothing
abbrev pub idle_side : ℕ → ℕ → ℕ × ℕ → Side
idle_side to prio queue = record { to = to; prio = prio; queue = queue; takes = false; next = 0; posts = []; got = [] }

-- after a pass was split off for the next party
abbrev pub past_side : Side → Side
past_side a = record a { next = a.next + 1 }

-- after the next party kept the pass
abbrev pub keeping_side : Side → Side
keeping_side a = record a { posts = record { party = a.next; list = [] } ∷ a.posts; next = a.next + 1 }

-- after another pass was taken in
abbrev pub joined : Side → Side → Side
joined a b = record a { posts = a.posts ++ b.posts }

-- after the party of the pass posted a message
abbrev pub sent_more : List Sent → Msg → List Sent
sent_more [] m = []
sent_more (x ∷ xs) m = record x { list = x.list ++ m ∷ [] } ∷ xs

abbrev pub sending : Side → Msg → Side
sending a m = record a { posts = sent_more a.posts m }

-- after a message was taken
abbrev pub getting : Side → Msg → Side
getting a m = record a { got = a.got ++ m ∷ [] }

-- a message of the pass's one party into this box
pub record IsInto (a : Side) (m : Msg) : Type 0 where
  pub to : m.to.0 ≡ a.to
  pub prio : m.prio.0 ≡ a.prio
  pub party : map (λ s. s.party) a.posts ≡ m.from.0 ∷ []

-- a message out of this box
pub record IsOutOf (a : Side) (m : Msg) : Type 0 where
  pub to : m.to.0 ≡ a.to
  pub prio : m.prio.0 ≡ a.prio
  pub from : m.from.0 < a.next

-- of each party for which the pass posts, all that it posted is taken
abbrev pub AllTaken : List Msg → List Sent → Type 0
AllTaken got [] = Unit {0}
AllTaken got (x ∷ xs) = (from_sender x.party got ≡ x.list) × AllTaken got xs

-- a pass has taken all: all that was posted by the parties for which it posts, and nothing of those for which no pass
-- was split off
pub record IsEmptied (a : Side) : Type 0 where
  pub all : AllTaken a.got a.posts
  pub none : (s : ℕ) → a.next ≤ s → from_sender s a.got ≡ []
