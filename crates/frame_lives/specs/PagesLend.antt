-- What pages end as, once a reference into them has ended.
use Rattle.std.specs.Prelude.{◌≡◌, ℕ, List, Option, Result, ⊤}
use Rattle.std.specs.Borrow.{Lends, LendsIf, LendsSoOk, Fml, RattleType, MutBor}
use Rattle.actor_duties.specs.Words.{updated}
use Rattle.frame_lives.specs.contracts.pages.Pages.{the_row}
use Rattle.frame_lives.specs.Items.{item_in, with_item}

module _ (T : RattleType) where
  -- at place n they have the last value behind r
  abbrev pub lends_item : MutBor (List (List T.Denot)) → ℕ → MutBor T.Denot → Fml
  lends_item s n r = Lends (the_row T) T s r (with_item s.now n)

  -- the same, and at `None` they stay as they are
  abbrev pub lends_if_there : MutBor (List (List T.Denot)) → ℕ → Option (MutBor T.Denot) → Fml
  lends_if_there s n r = LendsIf (the_row T) T s r (with_item s.now n) s.now

  -- at place n they have the last value behind r, and else the items that they had; at `Err` nothing is said
  abbrev pub lends_reached : T.Denot → MutBor (List (List T.Denot)) → ℕ → {E : Type 0} → Result (MutBor T.Denot) E → Fml
  lends_reached blank s n r = LendsSoOk (the_row T) T s r (λ after w. item_in blank after ≡ updated (item_in blank s.now) n w) (λ _. ⊤)
