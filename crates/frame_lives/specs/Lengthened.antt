-- Lists that are lengthened.
use Rattle.std.specs.Prelude.{◌≡◌, ℕ, ◌<◌, List, length, slice_index_or}

-- a list was lengthened, where it didn't reach place n yet: behind its old end stand defaults
pub record IsLengthened {A : Type 0} (d : A) (old new : List A) (n : ℕ) : Type 0 where
  pub there : n < length new
  pub same : (i : ℕ) → slice_index_or new i d ≡ slice_index_or old i d
