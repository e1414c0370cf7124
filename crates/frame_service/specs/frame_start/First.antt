-- What a controller knows at the start.
use Rattle.std.specs.Prelude.{ℕ, ◌&&◌, Bool, length, if◌then◌else◌}
use Rattle.room_wiring.specs.declared.tables.Tables.{Tables}
use Rattle.room_wiring.specs.Places.{is_told}
use Rattle.actor_duties.specs.Words.{is_own}
use Rattle.actor_world.specs.Start.{first_frame}
use Rattle.frame_lives.specs.declared.row.Row.{Row}
use Rattle.frame_lives.specs.Known.{Known}

-- the lives and the directory of the frame service at the start
abbrev pub first_known : Tables → ℕ → Known
first_known t me = record { slots = length t.slots; lives = (first_frame t me).lives; told = (first_frame t me).told }

-- the row of a slot, by whether it lives from the start
abbrev pub first_row : Tables → ℕ → ℕ → Bool → Row
first_row t me s starts = record {
  generation = if is_own t me s && starts then 1 else 0;
  lives = is_own t me s && starts;
  told = if is_told t s me && starts then 1 else 0;
}
