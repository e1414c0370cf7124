-- What contracts see of an end.
use Rattle.std.specs.Prelude.{ℕ, ◌+◌, ◌*◌, ◌<◌, ◌≡◌, List, [], map, length, nat_lt, if◌then◌else◌, slice_index, slice_get, Option, Some, None}
use Rattle.room_kinds.specs.declared.message.Msg.{Msg}
use Rattle.mail_core.specs.EndLog.{EndLog}
use Rattle.mail_lanes.specs.declared.ends.MailLanes.{MailLanes}
use Rattle.mail_lanes.specs.Lanes.{OutLane, InLane, out_lane, in_side, out_at, in_at}
use Rattle.mail_lanes.specs.Wires.{OutWire, InWire, Wiring, out_wire, in_wire}
use Rattle.mail_lanes.specs.Parts.{wiring}

abbrev pub outs_of : MailLanes → List OutLane
outs_of e = map out_lane e.outlets.items

abbrev pub ins_of : MailLanes → List (Option InLane)
ins_of e = map in_side e.inlets.items

abbrev pub wiring_of : MailLanes → Wiring
wiring_of e = wiring e.party e.parties (outs_of e) (ins_of e)

-- lists by party and priority, where the six of each party stand one after another
abbrev pub by_six : (ℕ → List Msg) → ℕ → ℕ → List Msg
by_six f k p = if nat_lt p 6 then f (k * 6 + p) else []

abbrev pub posted_at : List OutLane → ℕ → List Msg
posted_at outs i = (out_at outs i).posted

-- what was stolen, or what the owner took where nobody steals
abbrev pub taken_in : OutLane → Option InLane → List Msg
taken_in o None = o.taken
taken_in o (Some i) = i.taken

abbrev pub taken_at : List OutLane → List (Option InLane) → ℕ → List Msg
taken_at outs ins i = taken_in (out_at outs i) (in_at ins i)

-- what an end did: its posted and taken lists are what the views of its workers and passes hold
abbrev pub log_from : ℕ → ℕ → (ℕ → ℕ) → List OutLane → List (Option InLane) → EndLog
log_from party parties looks outs ins = record { party = party; parties = parties; posted = by_six (posted_at outs); taken = by_six (taken_at outs ins); looks = looks }

abbrev pub log_of : MailLanes → EndLog
log_of e = log_from e.party e.parties (slice_index e.looks.items) (outs_of e) (ins_of e)

-- through one deque
abbrev pub Joined : OutWire → Option InWire → Type 0
Joined o None = ⊥
Joined o (Some i) = i.deque ≡ o.deque

-- the ends of one set-up: in order of party, and each lane of two parties is one deque
pub record AreTied (office : Unit {0}) (ends : List MailLanes) : Type 0 where
  pub place : (k : ℕ) (e : MailLanes) → slice_get ends k ≡ Some e → ((wiring_of e).party ≡ k) × ((wiring_of e).parties ≡ length ends)
  pub joined : (s r p : ℕ) (a b : MailLanes) → slice_get ends s ≡ Some a → slice_get ends r ≡ Some b → r + 1 < length ends → p < 6 → (s ≡ r → ⊥) → Joined (out_wire (wiring_of a) r p) (in_wire (wiring_of b) s p)
