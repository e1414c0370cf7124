-- The lanes of an office and what the ends of all parties did.
use Rattle.std.specs.Prelude.{ℕ, ◌+◌, ◌*◌, ◌^◌, ◌<◌, ◌≡◌, List, [], ◌∷◌, ◌++◌, length, slice_index_or, nat_lt, if◌then◌else◌}
use Rattle.room_kinds.specs.declared.message.Msg.{Msg}
use Rattle.mail_core.specs.EndLog.{EndLog, fresh}

-- the list of a party and a priority, where the six lists of each party stand one after another
abbrev pub list_of : List (List Msg) → ℕ → ℕ → List Msg
list_of lists k p = if nat_lt p 6 then slice_index_or lists (k * 6 + p) [] else []

-- which lane that of a sender, a receiver and a priority is, among n parties
abbrev pub lane_number : ℕ → ℕ → ℕ → ℕ → ℕ
lane_number n s r p = (r * n + s) * 6 + p

abbrev pub lane_of : List (List Msg) → ℕ → ℕ → ℕ → ℕ → List Msg
lane_of lanes n s r p = slice_index_or lanes (lane_number n s r p) []

-- what the end of a party did
abbrev pub log_at : List EndLog → ℕ → EndLog
log_at logs k = slice_index_or logs k (fresh 0 0)

-- a message of this lane
pub record IsFor (s r p : ℕ) (m : Msg) : Type 0 where
  pub from : m.from.0 ≡ s
  pub to : m.to.0 ≡ r
  pub prio : m.prio.0 ≡ p

abbrev pub AllFor : ℕ → ℕ → ℕ → List Msg → Type 0
AllFor s r p [] = Unit {0}
AllFor s r p (m ∷ ms) = IsFor s r p m × AllFor s r p ms

-- one number of parties, and in each lane what was taken and then what lies in the office is what was posted
pub record LanesMatch (n : ℕ) (lanes : List (List Msg)) (logs : List EndLog) : Type 0 where
  pub all_ends : length logs ≡ n
  pub all_lanes : length lanes ≡ (n * n) * 6
  pub party : (k : ℕ) → k < n → (log_at logs k).party ≡ k
  pub parties : (k : ℕ) → k < n → (log_at logs k).parties ≡ n
  pub kept : (s r p : ℕ) → s < n → r < n → p < 6 → (log_at logs r).taken s p ++ lane_of lanes n s r p ≡ (log_at logs s).posted r p
  pub for_lane : (s r p : ℕ) → s < n → r < n → p < 6 → AllFor s r p (lane_of lanes n s r p)
  pub short : (s r p : ℕ) → s < n → r < n → p < 6 → length ((log_at logs s).posted r p) < 2 ^ 63
