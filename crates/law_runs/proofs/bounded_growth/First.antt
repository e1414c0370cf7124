-- The generations at the start.
use Rattle.std.proofs.Common.{ℕ, ◌≤◌, Bool, true, false, cond, arith}
use Rattle.std.specs.Prelude.{◌&&◌}
use Rattle.room_wiring.specs.declared.tables.Tables.{Tables}
use Rattle.actor_duties.specs.Words.{is_own}
use Rattle.actor_world.specs.Start.{lives_from_start, first_frame}

at_most_one : (b : Bool) → cond b 1 0 ≤ 1
at_most_one true = omega arith
at_most_one false = omega arith

pub starts_low : (t : Tables) (me s : ℕ) → (first_frame t me).lives.generation s ≤ 1
starts_low t me s = at_most_one (is_own t me s && lives_from_start t s)
