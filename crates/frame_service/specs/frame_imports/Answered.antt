-- What an answer to an import place does: the rows from ImportDone to DeportDone, as one.
use Rattle.std.specs.Prelude.{ℕ, ℤ, ◌&&◌, ◌||◌, Bool}
use Rattle.room_wiring.specs.declared.tables.Tables.{Tables}
use Rattle.actor_duties.specs.Words.{whose, id_of}
use Rattle.actor_duties.specs.Messages.{FrameSignal, told_of, is_code, StaleId, PortTaken}
use Rattle.actor_duties.specs.Messages as signals
use Rattle.actor_duties.specs.State.{Lives, ImportPlace, Empty, Held, Done}
use Rattle.actor_duties.specs.Imports.{container_frame, heard, is_asking, is_held, is_leaving}
use Rattle.frame_service.specs.declared.frame_imports.answers.Answer.{Answer}
use Rattle.frame_service.specs.declared.frame_imports.answers.What.{What}
use Rattle.frame_service.specs.declared.frame_imports.answers.What.TheVariants as what
use Rattle.room_kinds.specs.declared.numbers.Endpoint.{Endpoint}

-- whether a place that holds this waits for what the owner of h says
abbrev pub awaits : Endpoint → What → ImportPlace → Bool
awaits h what.Lent place = is_asking (whose h) place
awaits h (what.Refused code) place = (is_code StaleId code || is_code PortTaken code) && is_asking (whose h) place
awaits h what.Ended place = is_held (whose h) place
awaits h what.Back place = is_leaving (whose h) place

-- what the place holds after it
abbrev pub holds_after : Endpoint → What → ImportPlace
holds_after h what.Lent = Held (whose h)
holds_after h (what.Refused code) = Empty
holds_after h what.Ended = Empty
holds_after h what.Back = Empty

-- the signal by which the container is told
abbrev pub signal_at : What → FrameSignal
signal_at what.Lent = signals.Imported
signal_at (what.Refused code) = signals.Refused
signal_at what.Ended = signals.Ended
signal_at what.Back = signals.Deported

-- the last number that the container is told: a code, or the home's number
abbrev pub last_at : Endpoint → What → ℤ
last_at h what.Lent = id_of (whose h)
last_at h (what.Refused code) = code
last_at h what.Ended = id_of (whose h)
last_at h what.Back = id_of (whose h)

-- the same of an answer
abbrev pub is_awaited : Answer → ImportPlace → Bool
is_awaited a place = awaits a.home a.what place

abbrev pub place_after : Answer → ImportPlace
place_after a = holds_after a.home a.what

abbrev pub signal_for : Answer → FrameSignal
signal_for a = signal_at a.what

abbrev pub told_last : Answer → ℤ
told_last a = last_at a.home a.what

-- what an answer does
abbrev pub answered : Tables → ℕ → Lives → (ℕ → ImportPlace) → Answer → Done (ℕ → ImportPlace)
answered t me l places a =
    heard t l places a.place (is_awaited a (places a.place.slot.0)) (place_after a)
    (told_of t me (signal_for a) a.home (container_frame t a.place) a.place.slot.0 (told_last a))
