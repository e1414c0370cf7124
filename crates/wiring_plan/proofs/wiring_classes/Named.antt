-- Names without entries make nothing.
use Rattle.std.proofs.Common.{◌≡◌, ◌∙◌, ℕ, ◌<◌, List, [], ◌∷◌, ◌++◌, length, append-nil, refl, sym, ap, arith}
use Rattle.wiring_plan.specs.wiring_classes.Parts.{named}

pub named_none : {X Y : Type 0} (make : List ℕ → X → Y) (ns : List (List ℕ)) → named make ns [] ≡ []
named_none make [] = refl
named_none make (n ∷ ns) = refl

-- where no entry is left, all is made
pub named_stops : {X Y : Type 0} (make : List ℕ → X → Y) (ns : List (List ℕ)) (left : List X) (all whole : List Y) → length left < 1 → all ++ named make ns left ≡ whole → all ≡ whole
named_stops {X} {Y} make ns [] all whole none h = sym (append-nil all) ∙ sym (ap (λ (ys : List Y). all ++ ys) (named_none make ns)) ∙ h
named_stops make ns (x ∷ xs) all whole none h = absurd (omega arith)
