-- The first numbers of a message.
use Rattle.std.proofs.Common.{◌≡◌, ℕ, zero, suc, min, List, [], ◌∷◌, length, map, take, refl, sym, ap, ◌∙◌, arith}
use Rattle.std.proofs.lemmas.List.{take-map}
use Rattle.action_program.specs.declared.bound.Argument.{Argument}
use Rattle.action_program.specs.Numbered.{argument_view}
use Rattle.action_program.specs.Meaning.{carried}

-- to take no more than there are changes nothing
take_min : {X : Type 0} (n m : ℕ) (xs : List X) → m ≡ min (length xs) n → take m xs ≡ take n xs
take_min zero zero [] h = refl
take_min zero (suc m) [] h = refl
take_min (suc n) zero [] h = refl
take_min (suc n) (suc m) [] h = refl
take_min zero zero (x ∷ xs) h = refl
take_min zero (suc m) (x ∷ xs) h = absurd (omega arith)
take_min (suc n) zero (x ∷ xs) h = absurd (omega arith)
take_min (suc n) (suc m) (x ∷ xs) h = ap (λ ys. x ∷ ys) (take_min n m xs (omega arith))

pub carried_views : (m : ℕ) (xs : List Argument) → m ≡ min (length xs) 64 → map argument_view (take m xs) ≡ carried (map argument_view xs)
unfolding carried
carried_views m xs h = ap (map argument_view) (take_min 64 m xs h) ∙ sym (take-map argument_view 64 xs)
