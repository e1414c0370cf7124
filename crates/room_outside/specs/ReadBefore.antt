-- Files of which some were read before.
use Rattle.std.specs.Prelude.{ℕ, List}
use Rattle.room_outside.specs.Files.{text_under}
use Rattle.room_outside.specs.Shown.{Shown}

-- the names and texts of what was read, and the count of faults of the files
pub record ReadState : Type 0 where
  pub read : List (List ℕ × List ℕ)
  pub faults : ℕ

-- these texts are told, and no others; one count is that of every name
abbrev pub shown_of : ReadState → Shown
shown_of s = record { text = text_under s.read; faults = λ _. s.faults }
