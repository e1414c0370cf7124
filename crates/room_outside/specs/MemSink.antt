-- A sink in memory.
use Rattle.std.specs.Prelude.{ℕ, ◌-◌, ◌++◌, ◌==◌, ◌||◌, ◌&&◌, not, List, Bool, length, take, min, if◌then◌else◌, Some}
use Rattle.room_outside.specs.Calls.{Calls, after_call, next_fails}
use Rattle.room_outside.specs.Faults.{one_more}
use Rattle.room_outside.specs.Written.{Written}

-- the bytes that were taken, how many may be in all, the calls, and the count of faults
pub record SinkState : Type 0 where
  pub bytes : List ℕ
  pub room : ℕ
  pub calls : Calls
  pub faults : ℕ

-- all bytes are told
abbrev pub written_of : SinkState → Written
written_of s = record { told = Some s.bytes; faults = s.faults }

-- how many bytes of a piece there is room for
abbrev pub that_fit : SinkState → List ℕ → ℕ
that_fit s piece = min (length piece) (s.room - length s.bytes)

-- a call fails where it is made to, and where the piece has bytes and there is room for none
abbrev pub refuses : SinkState → List ℕ → Bool
refuses s piece = next_fails s.calls || (that_fit s piece == 0 && not (length piece == 0))

-- the sink after a write
abbrev pub after_write : SinkState → List ℕ → SinkState
after_write s piece =
    if refuses s piece then
    record s { calls = after_call s.calls; faults = one_more s.faults } else
    record s { calls = after_call s.calls; bytes = s.bytes ++ take (that_fit s piece) piece }
