-- What was written to a sink.
use Rattle.std.specs.Prelude.{◌≡◌, ℕ, ◌<◌, ◌≤◌, List, ◌++◌, length, take, min, Option, None, Result}
use Rattle.std.specs.Option.{option_map}
use Rattle.std.specs.Result.{MatchResult}
use Rattle.room_outside.specs.declared.sink.WriteFault.{WriteFault}
use Rattle.room_outside.specs.Faults.{Rose, last_count}

-- the bytes, where they are told, and how many writes have failed
pub record Written : Type 0 where
  pub told : Option (List ℕ)
  pub faults : ℕ

-- no bytes are told
abbrev pub untold : ℕ → Written
untold faults = record { told = None; faults = faults }

-- told bytes, and then more
abbrev pub appended : Option (List ℕ) → List ℕ → Option (List ℕ)
appended told bytes = option_map (λ xs. xs ++ bytes) told

-- exactly these bytes were appended, as far as bytes are told, and the count of faults didn't fall
pub record Appends (before after : Written) (bytes : List ℕ) : Type 0 where
  pub told : after.told ≡ appended before.told bytes
  pub faults : before.faults ≤ after.faults

-- a write failed after some of these bytes, not all: exactly those were appended, and the count of faults rose
pub record BreaksOff (before after : Written) (bytes : List ℕ) : Type 0 where
  pub taken : ℕ
  pub within : taken < length bytes
  pub front : Appends before after (take taken bytes)
  pub fault : Rose before.faults after.faults

-- the same, and this count tells how many bytes were appended; it stands still at the last value of a usize
pub record BreaksOffAfter (count : ℕ) (before after : Written) (bytes : List ℕ) : Type 0 where
  pub breaks : BreaksOff before after bytes
  pub number : count ≡ min breaks.taken last_count

-- a text was written whole, or broke off after as many bytes as the fault tells
abbrev pub Writes : Result Unit WriteFault → Written → Written → List ℕ → Type 0
Writes result before after text =
    MatchResult result (λ _. Appends before after text) (λ fault. BreaksOffAfter fault.taken before after text)
