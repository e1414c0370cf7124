-- A line that may stand open in the buffer.
use Rattle.std.specs.Prelude.{[], Bool, if◌then◌else◌}
use Rattle.room_outside.specs.Written.{Written}
use Rattle.room_outside.specs.line_text.Output.{Held, Output}

-- what the buffer holds where a line of fetches stands open in it; else that is passed over
abbrev pub standing : Bool → Written → Held → Output
standing begun w held = record { written = w; held = record held { bytes = if begun then held.bytes else [] } }
