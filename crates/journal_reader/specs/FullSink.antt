-- A sink that refuses bytes only where it is full.
use Rattle.std.specs.Prelude.{◌≡◌, ◌<◌, ◌≤◌, [], ◌∷◌, Some, length}
use Rattle.room_outside.specs.MemSink.{SinkState}
use Rattle.room_outside.specs.Written.{Written}

-- no call is made to fail, and where one has failed there is room for no more
pub record FailsIfFull (s : SinkState) : Type 0 where
  pub sure : s.calls.fail ≡ []
  pub full : 0 < s.faults → s.room ≤ length s.bytes

-- the room, and then all bytes
abbrev pub written_of : SinkState → Written
written_of s = record { told = Some (s.room ∷ s.bytes); faults = s.faults }
