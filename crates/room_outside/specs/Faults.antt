-- Counts of faults.
use Rattle.std.specs.Prelude.{ℕ, ◌+◌, ◌-◌, ◌^◌, ◌<◌, min}

-- the last value of a u64, at which a count stands still
abbrev pub last_count : ℕ
last_count = 2 ^ 64 - 1

-- one more, but never above the last value
abbrev pub one_more : ℕ → ℕ
one_more n = min (n + 1) last_count

-- a count of faults rose: it is greater than before, unless it stands at its last value
pub record Rose (before after : ℕ) : Type 0 where
  pub higher : after < last_count → before < after
