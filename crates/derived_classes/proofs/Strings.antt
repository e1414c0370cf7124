-- Empty strings, of which there is but one.
use Rattle.std.proofs.Common.{◌≡◌, List, [], ◌∷◌, length, refl, ap, arith}
use Rattle.room_ast.specs.declared.protocol.EmptyString.{EmptyString}

pub same_strings : (xs ys : List EmptyString) → length xs ≡ length ys → xs ≡ ys
same_strings [] [] e = refl
same_strings [] (y ∷ ys) e = absurd (omega (arith, e))
same_strings (x ∷ xs) [] e = absurd (omega (arith, e))
same_strings (x ∷ xs) (y ∷ ys) e = ap (λ zs. x ∷ zs) (same_strings xs ys (omega (arith, e)))
