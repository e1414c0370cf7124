-- The order in which a poll looks at boxes.
use Rattle.std.specs.Prelude.{ℕ, ◌+◌, ◌-◌, ◌*◌, ◌<◌, ◌≡◌, ◌==◌, nat_lt, if◌then◌else◌}

-- which sender's turn it is within one priority: the environment's first, and then the controllers' ascending
abbrev pub sender_place : ℕ → ℕ → ℕ
sender_place n s = if s + 1 == n then 0 else s + 1

-- the place of a lane in the order of a poll among n parties: priority 5 first and 0 last
abbrev pub poll_place : ℕ → ℕ → ℕ → ℕ
poll_place n s p = (5 - p) * n + sender_place n s

-- a box for each lane: its number is the lane's place in the order of a poll
pub record IsLaneBox (n b s p : ℕ) : Type 0 where
  pub sender : s < n
  pub prio : p < 6
  pub place : b ≡ poll_place n s p

-- a controller has a box for each lane that goes to it; the environment has none
abbrev pub lane_boxes : ℕ → ℕ → ℕ
lane_boxes party parties = if nat_lt (party + 1) parties then parties * 6 else 0
