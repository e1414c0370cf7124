-- Counts of a shelf in memory.
use Rattle.std.proofs.Common.{ℕ, ◌<◌, ◌≤◌, List, length, get_or, refl, arith}
use Rattle.std.proofs.Math.ListN.{set}
use Rattle.std.proofs.lemmas.Grind.{common_steps}
use Rattle.room_outside.specs.Faults.{last_count, Rose}
use Rattle.room_outside.specs.Files.{place_of}
use Rattle.room_outside.specs.Shown.{Keeps}
use Rattle.room_outside.specs.MemShelf.{ShelfState, count_of, shown_by, raised}

-- a number that is replaced by a greater one leaves none smaller
set-rises : (xs : List ℕ) (i j v : ℕ) → i < length xs → get_or xs i 0 ≤ v → get_or xs j 0 ≤ get_or (set xs i v) j 0
set-rises xs i j v h le = grind (arith, common_steps)

-- the count of the name rises
pub raised-rises : (s : ShelfState) (name : List ℕ) → place_of s.files name < length s.counts → Rose (count_of s name) (count_of (raised s name) name)
raised-rises s name h = record { higher = grind (arith, common_steps) }

-- no text changes, and no count falls
pub raised-keeps : (s : ShelfState) (name : List ℕ) → place_of s.files name < length s.counts → count_of s name ≤ last_count → Keeps (shown_by s) (shown_by (raised s name))
raised-keeps s name h le =
    record {
      texts = λ n. refl;
      faults = λ n. set-rises s.counts (place_of s.files name) (place_of s.files n) _ h (omega arith);
    }

pub ruleset raise_steps = (raised-rises, raised-keeps)
