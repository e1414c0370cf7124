-- What a page ends as, once a reference into it has ended.
use Rattle.std.specs.Prelude.{ℕ, List, Option, slice_set}
use Rattle.std.specs.Borrow.{Lends, LendsIf, Fml, RattleType, MutBor}
use Rattle.frame_lives.specs.contracts.page.Page.{the_row}

module _ (T : RattleType) (s : MutBor (List T.Denot)) (n : ℕ) where
  -- at place n it has the last value behind r
  abbrev pub lends_item : MutBor T.Denot → Fml
  lends_item r = Lends (the_row T) T s r (slice_set s.now n)

  -- the same, and at `None` it stays as it is
  abbrev pub lends_if_there : Option (MutBor T.Denot) → Fml
  lends_if_there r = LendsIf (the_row T) T s r (slice_set s.now n) s.now
