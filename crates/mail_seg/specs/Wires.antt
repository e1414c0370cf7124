-- What of the passes of an end never changes.
use Rattle.std.specs.Prelude.{ℕ, ◌+◌, ◌-◌, ◌*◌, ◌<◌, ◌≡◌, ◌==◌, nat_lt, if◌then◌else◌, Bool, true, false, List, [], ◌∷◌, map, length, slice_index_or}
use Rattle.mail_seg.specs.Sides.{Sent, Side}

-- whose box at which priority, by which queue; for which parties the pass posts; whether it takes, and from which
-- party on it has the right to post
pub record Wire : Type 0 where
  pub to : ℕ
  pub prio : ℕ
  pub queue : ℕ × ℕ
  pub parties : List ℕ
  pub takes : Bool
  pub next : ℕ

abbrev pub party_of : Sent → ℕ
party_of s = s.party

abbrev pub wire_of : Side → Wire
wire_of a = record { to = a.to; prio = a.prio; queue = a.queue; parties = map party_of a.posts; takes = a.takes; next = a.next }

-- which party of how many, and its passes: of each receiver six, priority 5 first
pub record Wiring : Type 0 where
  pub party : ℕ
  pub parties : ℕ
  pub wires : List Wire

abbrev pub wiring : ℕ → ℕ → List Side → Wiring
wiring party parties sides = record { party = party; parties = parties; wires = map wire_of sides }

abbrev pub no_wire : Wire
no_wire = record { to = 0; prio = 0; queue = (0, 0); parties = []; takes = false; next = 0 }

-- the pass to a box of a receiver
abbrev pub wire_at : Wiring → ℕ → ℕ → Wire
wire_at w r b = slice_index_or w.wires (r * 6 + b) no_wire

-- how many of n parties post at a priority, from the first on: at the system level, priority 0, all but the environment
abbrev pub poster_count : ℕ → ℕ → ℕ
poster_count n p = if p == 0 then n - 1 else n

-- for whom a pass of party s posts: for the party, if that posts at the priority
abbrev pub posters : ℕ → ℕ → ℕ → List ℕ
posters n p s = if nat_lt s (poster_count n p) then s ∷ [] else []

-- a pass of party s to the box of receiver r at priority p; the receiver's takes, and knows how many parties post
pub record IsWire (n r p s : ℕ) (w : Wire) : Type 0 where
  pub to : w.to ≡ r
  pub prio : w.prio ≡ p
  pub parties : w.parties ≡ posters n p s
  pub own : s ≡ r → (w.takes ≡ true) × (w.next ≡ poster_count n p)

-- a pass to each box of each controller, at its place
pub record IsWired (w : Wiring) : Type 0 where
  pub one_of : w.party < w.parties
  pub all : length w.wires + 6 ≡ w.parties * 6
  pub each : (r b : ℕ) → r + 1 < w.parties → b < 6 → IsWire w.parties r (5 - b) w.party (wire_at w r b)
