-- What goes to a sink through a buffer.
use Rattle.std.specs.Prelude.{◌≡◌, ℕ, ◌<◌, ◌+◌, length, min, List, [], ◌++◌, Result}
use Rattle.std.specs.Result.{MatchResult}
use Rattle.room_outside.specs.Written.{Written, Appends}
use Rattle.room_outside.specs.Faults.{Rose, last_count}

-- the bytes that a buffer holds, and how many bytes the sink has taken from it
pub record Held : Type 0 where
  pub bytes : List ℕ
  pub taken : ℕ

-- a new buffer
abbrev pub new_held : Held
new_held = record { bytes = []; taken = 0 }

-- with these bytes, too
abbrev pub holding : Held → List ℕ → Held
holding held bytes = record held { bytes = held.bytes ++ bytes }

-- with no bytes
abbrev pub emptied : Held → Held
emptied held = record held { bytes = [] }

-- so many more were counted, by a count that stands still at its last value
pub record Counts (before after more : ℕ) : Type 0 where
  pub count : min after last_count ≡ min (before + more) last_count

-- what was written to the sink, and what the buffer still holds
pub record Output : Type 0 where
  pub written : Written
  pub held : Held

-- an empty buffer before a sink
abbrev pub at_rest : Written → Held → Output
at_rest w held = record { written = w; held = emptied held }

-- these bytes went in after what the buffer held; a front of it all was written and counted, the rest is held
pub record Put (before after : Output) (bytes : List ℕ) : Type 0 where
  pub front : List ℕ
  pub appends : Appends before.written after.written front
  pub split : before.held.bytes ++ bytes ≡ front ++ after.held.bytes
  pub counts : Counts before.held.taken after.held.taken (length front)

-- what was written to the sink when a fault came, and how many bytes were counted
pub record Stop : Type 0 where
  pub written : Written
  pub taken : ℕ

abbrev pub stop : Output → Stop
stop output = record { written = output.written; taken = output.held.taken }

-- a fault: a front of what the buffer held and of these bytes was written and counted, the rest, which isn't empty, is lost
pub record Breaks (before : Output) (after : Stop) (bytes : List ℕ) : Type 0 where
  pub front : List ℕ
  pub rest : List ℕ
  pub appends : Appends before.written after.written front
  pub split : before.held.bytes ++ bytes ≡ front ++ rest
  pub lost : 0 < length rest
  pub counts : Counts before.held.taken after.taken (length front)
  pub fault : Rose before.written.faults after.written.faults

-- the bytes went in, or a fault came
abbrev pub Puts : {E : Type 0} → Result Unit E → Output → Output → List ℕ → Type 0
Puts result before after bytes = MatchResult result (λ _. Put before after bytes) (λ _. Breaks before (stop after) bytes)
