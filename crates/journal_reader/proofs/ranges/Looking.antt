-- Elements that were looked at one after another.
use Rattle.std.proofs.Common.{ℕ, ◌≤◌, List, length, take, All, sym}
use Rattle.std.proofs.lemmas.List.{take_all}
use Rattle.std.proofs.lemmas.List.Elements.{All-same}

-- all of them
pub all_looked_at : {X : Type 0} (P : X → Type 0) (xs : List X) (i : ℕ) → length xs ≤ i → All P (take i xs) → All P xs
all_looked_at P xs i past seen = All-same P xs (take i xs) (sym (take_all i xs past)) seen
