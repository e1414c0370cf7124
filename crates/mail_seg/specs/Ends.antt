-- What contracts see of an end.
use Rattle.std.specs.Prelude.{ℕ, ◌+◌, ◌-◌, ◌*◌, ◌<◌, ◌≡◌, false, List, [], ◌∷◌, map, length, nat_lt, if◌then◌else◌, slice_index, slice_index_or, slice_get, Some}
use Rattle.room_kinds.specs.declared.message.Msg.{Msg}
use Rattle.mail_core.specs.EndLog.{EndLog}
use Rattle.mail_seg.specs.declared.ends.MailSeg.{MailSeg}
use Rattle.mail_seg.specs.Sides.{Sent, Side, side, from_sender}
use Rattle.mail_seg.specs.Wires.{Wiring, wiring, wire_at}

abbrev pub sides_of : MailSeg → List Side
sides_of e = map side e.outlets.items

abbrev pub wiring_of : MailSeg → Wiring
wiring_of e = wiring e.party e.parties (sides_of e)

abbrev pub no_side : Side
no_side = record { to = 0; prio = 0; queue = (0, 0); takes = false; next = 0; posts = []; got = [] }

abbrev pub side_at : List Side → ℕ → Side
side_at sides i = slice_index_or sides i no_side

-- what the party of a pass posted
abbrev pub first_list : List Sent → List Msg
first_list [] = []
first_list (x ∷ xs) = x.list

-- by receiver and priority: what the views of the end's passes hold
abbrev pub posted_at : List Side → ℕ → ℕ → List Msg
posted_at sides r p = if nat_lt p 6 then first_list (side_at sides (r * 6 + (5 - p))).posts else []

-- by sender and priority: what the views of the party's own boxes hold
abbrev pub taken_at : List Side → ℕ → ℕ → ℕ → List Msg
taken_at sides k s p = if nat_lt p 6 then from_sender s (side_at sides (k * 6 + (5 - p))).got else []

abbrev pub log_from : ℕ → ℕ → (ℕ → ℕ) → List Side → EndLog
log_from party parties looks sides = record { party = party; parties = parties; posted = posted_at sides; taken = taken_at sides party; looks = looks }

-- what an end did
abbrev pub log_of : MailSeg → EndLog
log_of e = log_from e.party e.parties (slice_index e.looks.items) (sides_of e)

-- the lanes of a box: of one priority, each sender's; priority 5 has box 0
pub record IsSharedBox (n b s p : ℕ) : Type 0 where
  pub sender : s < n
  pub prio : p < 6
  pub number : b ≡ 5 - p

-- a controller has a box for each priority; the environment has none
abbrev pub shared_boxes : ℕ → ℕ → ℕ
shared_boxes party parties = if nat_lt (party + 1) parties then 6 else 0

-- the ends of one set-up: in order of party, and their passes to a box are of one queue
pub record AreTied (office : Unit {0}) (ends : List MailSeg) : Type 0 where
  pub place : (k : ℕ) (e : MailSeg) → slice_get ends k ≡ Some e → ((wiring_of e).party ≡ k) × ((wiring_of e).parties ≡ length ends)
  pub one_queue : (s t r b : ℕ) (a c : MailSeg) → slice_get ends s ≡ Some a → slice_get ends t ≡ Some c → r + 1 < length ends → b < 6 → (wire_at (wiring_of a) r b).queue ≡ (wire_at (wiring_of c) r b).queue
