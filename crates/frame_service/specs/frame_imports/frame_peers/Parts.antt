-- The frame service's state by its parts, and the end places that they lead to.
use Rattle.std.specs.Prelude.{ℕ, ◌==◌, List, Option, Some, None, if◌then◌else◌}
use Rattle.room_kinds.specs.declared.numbers.Incarnation.{Incarnation}
use Rattle.room_kinds.specs.declared.numbers.Endpoint.{Endpoint}
use Rattle.actor_duties.specs.Words.{endpoint}
use Rattle.actor_duties.specs.State.{Frame, ImportPlace, Empty, Asking, Held, Leaving}
use Rattle.frame_lives.specs.Known.{Known}

-- the state with these lives, this directory, these import places and these plugs
abbrev pub frame_by : Known → (ℕ → ImportPlace) → (ℕ → List Incarnation) → Frame
frame_by k places plugs = record { lives = k.lives; told = k.told; places = places; plugs = plugs }

-- the home that an import place holds
abbrev pub held_home : ImportPlace → Option Incarnation
held_home (Held home) = Some home
held_home Empty = None
held_home (Asking home) = None
held_home (Leaving home) = None

-- a place of what stands in a slot in a generation; nobody's at generation 0
abbrev pub end_in : ℕ → ℕ → ℕ → ℕ → Option Endpoint
end_in s generation p k = if generation == 0 then None else Some (endpoint s generation p k)
