-- The signals and codes of the code, as the rows name them, and which controllers have other parts.
use Rattle.std.specs.Prelude.{ℕ, ◌==◌, ◌&&◌, Bool, not}
use Rattle.room_wiring.specs.declared.tables.Tables.{Tables}
use Rattle.actor_duties.specs.Lives.{has_part}
use Rattle.actor_duties.specs.Messages as rows
use Rattle.service_messages.specs.declared.messages.FrameSignal.{FrameSignal}
use Rattle.service_messages.specs.declared.messages.FrameSignal.TheVariants as signals
use Rattle.service_messages.specs.declared.messages.Code.{Code}
use Rattle.service_messages.specs.declared.messages.Code.TheVariants as codes

-- the signal of the rows
abbrev pub signal_of : FrameSignal → rows.FrameSignal
signal_of signals.Created = rows.Created
signal_of signals.Destroyed = rows.Destroyed
signal_of signals.Imported = rows.Imported
signal_of signals.Ended = rows.Ended
signal_of signals.Deported = rows.Deported
signal_of signals.Refused = rows.Refused
signal_of signals.Registered = rows.Named
signal_of signals.Withdrawn = rows.Unnamed
signal_of signals.NameRefused = rows.NameRefused

-- the code of the rows
abbrev pub code_of : Code → rows.Code
code_of codes.Occupied = rows.Occupied
code_of codes.NoSlot = rows.NoSlot
code_of codes.NotHere = rows.NotHere
code_of codes.StaleId = rows.StaleId
code_of codes.PortTaken = rows.PortTaken
code_of codes.Busy = rows.Busy
code_of codes.WrongClass = rows.WrongClass
code_of codes.NameTaken = rows.NameTaken
code_of codes.NotRegistered = rows.NotRegistered

-- whether controller d is another one, with a part of slot o
abbrev pub is_other_part : Tables → ℕ → ℕ → ℕ → Bool
is_other_part t me o d = not (d == me) && has_part t d o
