-- What a set-up gives, and what a close answers.
use Rattle.std.specs.Prelude.{ℕ, zero, suc, ◌+◌, ◌-◌, ◌<◌, ◌≡◌, List, [], ◌++◌, length, slice_get, Some}
use Rattle.room_kinds.specs.declared.message.Msg.{Msg}
use Rattle.mail_core.specs.EndLog.{EndLog, fresh}
use Rattle.mail_core.specs.Lanes.{log_at}

-- one end for each party, in order, and none did anything yet
pub record AreFresh (n : ℕ) (logs : List EndLog) : Type 0 where
  pub count : length logs ≡ n
  pub each : (k : ℕ) → k < n → log_at logs k ≡ fresh n k

-- the lists of the controllers below k, ascending
abbrev pub of_controllers : (ℕ → List Msg) → ℕ → List Msg
of_controllers f zero = []
of_controllers f (suc k) = of_controllers f k ++ f k

-- one priority: the environment's lane first, and then the controllers' ascending
abbrev pub at_priority : ℕ → (ℕ → List Msg) → List Msg
at_priority n f = f (n - 1) ++ of_controllers f (n - 1)

-- the lanes of one receiver, by sender and priority: k priorities, from 5 down
abbrev pub priorities : ℕ → (ℕ → ℕ → List Msg) → ℕ → List Msg
priorities n f zero = []
priorities n f (suc k) = priorities n f k ++ at_priority n (λ s. f s (5 - k))

-- all lanes of one receiver in the order of a poll
unfoldable pub in_poll_order : ℕ → (ℕ → ℕ → List Msg) → List Msg
in_poll_order n f = priorities n f 6

-- in each lane what was taken and then what is left is what was posted, and the answer has what is left, a list for each controller
pub record IsLeft (logs : List EndLog) (answer : List (List Msg)) : Type 0 where
  pub left : ℕ → ℕ → ℕ → List Msg
  pub kept : (s r p : ℕ) → s < length logs → r + 1 < length logs → p < 6 → (log_at logs r).taken s p ++ left s r p ≡ (log_at logs s).posted r p
  pub count : length answer + 1 ≡ length logs
  pub order : (r : ℕ) → r + 1 < length logs → slice_get answer r ≡ Some (in_poll_order (length logs) (λ s p. left s r p))
