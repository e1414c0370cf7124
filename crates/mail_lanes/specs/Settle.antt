-- What a close asks of a lane's two ends, and what it finds.
use Rattle.std.specs.Prelude.{ℕ, ◌≡◌, ◌+◌, ◌*◌, ◌<◌, ◌≤◌, true, Option, Some, None, List, ◌++◌, length, drop}
use Rattle.room_kinds.specs.declared.message.Msg.{Msg}
use Rattle.mail_lanes.specs.Wires.{OutWire, InWire}
use Rattle.mail_lanes.specs.Lanes.{OutLane, InLane, out_at, in_at}
use Rattle.mail_lanes.specs.Parts.{in_wire_of}
use Rattle.mail_lanes.specs.Ends.{taken_in}
use Rattle.mail_lanes.specs.Made.{row_at, tab_at}

-- the ends of one deque and one lane, or an owner that takes itself
abbrev pub CanSettle : OutWire → Option InWire → Type 0
CanSettle o None = o.takes ≡ true
CanSettle o (Some i) = (i.deque ≡ o.deque) × (i.from ≡ o.from) × (i.to ≡ o.to) × (i.prio ≡ o.prio)

-- what was posted and not taken
abbrev pub left_in : OutLane → Option InLane → List Msg
left_in o i = drop (length (taken_in o i)) o.posted

abbrev pub IsSettled : OutLane → Option InLane → Type 0
IsSettled o i = taken_in o i ++ left_in o i ≡ o.posted

-- of the lane of a sender, a receiver and a priority
module _ (rows : List (List OutLane)) (tabs : List (List (Option InLane))) where
  abbrev pub out_of : ℕ → ℕ → ℕ → OutLane
  out_of s r p = out_at (row_at rows s) (r * 6 + p)

  abbrev pub in_of : ℕ → ℕ → ℕ → Option InLane
  in_of s r p = in_at (tab_at tabs r) (s * 6 + p)

  abbrev pub left_at : ℕ → ℕ → ℕ → List Msg
  left_at s r p = left_in (out_of s r p) (in_of s r p)

  abbrev pub CanAt : ℕ → ℕ → ℕ → Type 0
  CanAt s r p = CanSettle (out_of s r p).wire (in_wire_of (in_of s r p))

  abbrev pub SettledAt : ℕ → ℕ → ℕ → Type 0
  SettledAt s r p = IsSettled (out_of s r p) (in_of s r p)

-- the lanes of n parties to all but the last, by sender and by receiver
pub record IsTable (n : ℕ) (rows : List (List OutLane)) (tabs : List (List (Option InLane))) : Type 0 where
  pub row_count : length rows ≡ n
  pub tab_count : length tabs ≡ n
  pub out_count : (s : ℕ) → s < n → length (row_at rows s) + 6 ≡ n * 6
  pub in_count : (r : ℕ) → r + 1 < n → length (tab_at tabs r) ≡ n * 6

-- these lanes are as they were
pub record Same (n : ℕ) (P : ℕ → ℕ → ℕ → Type 0) (rows rows' : List (List OutLane)) (tabs tabs' : List (List (Option InLane))) : Type 0 where
  pub table : IsTable n rows' tabs'
  pub outs : (s r p : ℕ) → s < n → r + 1 < n → p < 6 → P s r p → out_of rows' tabs' s r p ≡ out_of rows tabs s r p
  pub ins : (s r p : ℕ) → s < n → r + 1 < n → p < 6 → P s r p → in_of rows' tabs' s r p ≡ in_of rows tabs s r p

-- but one lane, or those of one receiver at one priority, or those of one receiver
abbrev pub NotLane : ℕ → ℕ → ℕ → ℕ → ℕ → ℕ → Type 0
NotLane s r p s' r' p' = (s' ≡ s) × (r' ≡ r) × (p' ≡ p) → ⊥

abbrev pub NotRank : ℕ → ℕ → ℕ → ℕ → ℕ → Type 0
NotRank r p s' r' p' = (r' ≡ r) × (p' ≡ p) → ⊥

abbrev pub NotFor : ℕ → ℕ → ℕ → ℕ → Type 0
NotFor r s' r' p' = r' ≡ r → ⊥

-- lanes that a loop has yet to come to: at one priority from sender k on but the last, or of one receiver below a priority
abbrev pub Pending : ℕ → ℕ → ℕ → ℕ → ℕ → ℕ → ℕ → Type 0
Pending n r p k s' r' p' = (r' ≡ r) × (p' ≡ p) → (k ≤ s') × (s' + 1 < n)

abbrev pub Below : ℕ → ℕ → ℕ → ℕ → ℕ → Type 0
Below r k s' r' p' = r' ≡ r → p' + k < 6

abbrev pub From : ℕ → ℕ → ℕ → ℕ → Type 0
From k s' r' p' = k ≤ r'
