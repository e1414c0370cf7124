-- Repetition, a turn at a time.
use Rattle.std.proofs.Common.{◌≡◌, ℕ, zero, suc, ◌-◌, ◌+◌, ◌<◌, ◌≤◌, refl, arith}
use Rattle.action_program.specs.Meaning.{Ran, times}

times_more : (left less : ℕ) (f : Ran → Ran) (r : Ran) → left ≡ suc less → times left f r ≡ times less f (f r)
unfolding times
times_more left less f r e = rw e refl

times_none : (left : ℕ) (f : Ran → Ran) (r : Ran) → left ≡ 0 → times left f r ≡ r
unfolding times
times_none left f r e = rw e refl

-- one turn of those that are left
pub times_step : (n i : ℕ) (f : Ran → Ran) (r : Ran) → i < n → times (n - i) f r ≡ times (n - (i + 1)) f (f r)
times_step n i f r h = times_more (n - i) (n - (i + 1)) f r (omega arith)

-- no turn is left
pub times_end : (n i : ℕ) (f : Ran → Ran) (r : Ran) → n ≤ i → times (n - i) f r ≡ r
times_end n i f r h = times_none (n - i) f r (omega arith)
