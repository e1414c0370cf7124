-- Slots in the order of a tree: what lies below a slot is a run of numbers behind it.
use Rattle.std.specs.Prelude.{◌≡◌, ℕ, ◌<◌, ◌≤◌, nat_le, Bool, true, false, List, Some, length, slice_index}
use Rattle.std.specs.Option.{option_map_or}
use Rattle.room_wiring.specs.declared.tables.Tables.{Tables}
use Rattle.actor_duties.specs.Words.{container_of}
use Rattle.actor_duties.specs.Lives.{is_made_with}

-- whether the container of slot s is c or stands behind c
unfoldable pub is_inside : Tables → ℕ → ℕ → Bool
is_inside t c s = option_map_or (λ p. nat_le c p) (container_of t s) false

-- slots are numbered depth first: each stands behind its container, and between the two stand only
-- slots that lie below that container too
pub record IsDepthFirst (t : Tables) : Type 0 where
  pub behind : (s c : ℕ) → container_of t s ≡ Some c → c < s
  pub between : (s c u : ℕ) → container_of t s ≡ Some c → c < u → u < s → is_inside t c u ≡ true

-- the run of slot s ends at e: each slot between has its container in the run, and e, if it is a slot,
-- doesn't
pub record IsRunEnd (t : Tables) (s e : ℕ) : Type 0 where
  pub behind : s < e
  pub there : e ≤ length t.slots
  pub inside : (u : ℕ) → s < u → u < e → is_inside t s u ≡ true
  pub ends : is_inside t s e ≡ false

-- for each slot where its run ends
pub record AreRunEnds (t : Tables) (ends : List ℕ) : Type 0 where
  pub numbered : length t.slots ≤ 65536
  pub count : length ends ≡ length t.slots
  pub each : (s : ℕ) → s < length t.slots → IsRunEnd t s (slice_index ends s)

-- n is the next slot behind s that is made with o, or e, where the run of o ends, if there is none
pub record IsNextMade (t : Tables) (o e s n : ℕ) : Type 0 where
  pub behind : s < n
  pub within : n ≤ e
  pub none_between : (u : ℕ) → s < u → u < n → is_made_with t o u ≡ false
  pub made : n < e → is_made_with t o n ≡ true
