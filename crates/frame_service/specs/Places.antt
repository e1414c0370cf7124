-- What an import place shows to who looks at a controller's state.
use Rattle.std.specs.Prelude.{ℕ, false, unsigned_abs, Option, Some, None, if◌then◌else◌}
use Rattle.std.specs.Option.{option_map_or}
use Rattle.room_kinds.specs.declared.numbers.Incarnation.{Incarnation}
use Rattle.room_kinds.specs.declared.place_state.PlaceState.{PlaceState}
use Rattle.room_kinds.specs.declared.place_state.PlaceState.TheVariants as shows
use Rattle.room_wiring.specs.declared.tables.Tables.{Tables}
use Rattle.actor_duties.specs.Words.{id_of, container_of}
use Rattle.actor_duties.specs.State as rows
use Rattle.actor_duties.specs.State.{Frame}

-- the number of a home, as actions see it
abbrev pub home_number : Incarnation → ℕ
home_number home = unsigned_abs (id_of home)

-- what an import place shows, its home as a number
abbrev pub place_shown : rows.ImportPlace → PlaceState
place_shown rows.Empty = shows.Empty
place_shown (rows.Asking home) = shows.Asking (home_number home)
place_shown (rows.Held home) = shows.Held (home_number home)
place_shown (rows.Leaving home) = shows.Leaving (home_number home)

-- what the place of an imported slot shows; nothing where the slot's container doesn't live here
abbrev pub shown_place : Tables → Frame → ℕ → Option PlaceState
shown_place t frame slot =
    if option_map_or frame.lives.lives (container_of t slot) false then Some (place_shown (frame.places slot)) else None
