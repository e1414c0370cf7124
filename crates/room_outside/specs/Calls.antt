-- Calls that are made to fail.
use Rattle.std.specs.Prelude.{ℕ, Bool, List, ◌==◌}
use Rattle.std.specs.List.{list_any}
use Rattle.room_outside.specs.Faults.{one_more}

-- how many calls were made, and the numbers of those that fail, from 1
pub record Calls : Type 0 where
  pub made : ℕ
  pub fail : List ℕ

-- after one more call
abbrev pub after_call : Calls → Calls
after_call calls = record calls { made = one_more calls.made }

-- whether the next call fails
abbrev pub next_fails : Calls → Bool
next_fails calls = list_any (λ n. n == one_more calls.made) calls.fail
