-- Lists of timers, where nothing ends.
use Rattle.std.proofs.Common.{◌≡◌, ◌==◌, true, List, [], ◌∷◌, refl, ap, eqb-true, arith}
use Rattle.std.specs.Prelude.{length, filter}
use Rattle.room_kinds.specs.declared.note.Note.{Note}
use Rattle.room_timer.specs.declared.timer.Timer.{Timer}
use Rattle.room_timer.specs.Timers.{outlives}

-- without notes nothing ends
all_outlive : (xs : List Timer) → filter (outlives []) xs ≡ xs
all_outlive [] = refl
all_outlive (x ∷ xs) = ap (λ (zs : List Timer). x ∷ zs) (all_outlive xs)

pub none_ends : (ns : List Note) (xs : List Timer) → (length ns == 0) ≡ true → filter (outlives ns) xs ≡ xs
none_ends [] xs h = all_outlive xs
none_ends (n ∷ ns) xs h = absurd (omega (arith, eqb-true (length (n ∷ ns)) 0 h))
