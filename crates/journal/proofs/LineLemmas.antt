-- Lines of which a front was put before.
use Rattle.std.proofs.Common.{◌≡◌, ℕ, List, [], ◌∷◌, ◌++◌, Result, append_assoc}
use Rattle.std.specs.List.{concat}
use Rattle.std.proofs.lemmas.List.Folds.{concat-append}
use Rattle.room_outside.specs.line_text.Lines.{line}
use Rattle.room_outside.specs.line_text.Output.{Output, Stop, Put, Breaks, Puts}
use Rattle.room_outside.proofs.line_text.OutputLemmas.{breaks_first, puts_second}

line_joined : (xs ys : List (List ℕ)) → line (xs ++ ys) ≡ concat xs ++ line ys
line_joined xs ys = rw concat-append (append_assoc (concat xs) (concat ys) (10 ∷ []))

-- some parts, and then a call that ends the line
pub line_second : {E : Type 0} (r : Result Unit E) (a b c : Output) (xs ys : List (List ℕ))
    → Put a b (concat xs) → Puts r b c (line ys) → Puts r a c (line (xs ++ ys))
line_second r a b c xs ys p q = rw (line_joined xs ys) (puts_second r a b c (concat xs) (line ys) p q)

-- a fault before the line's last parts
pub line_break_first : (a : Output) (w : Stop) (xs ys : List (List ℕ)) → Breaks a w (concat xs) → Breaks a w (line (xs ++ ys))
line_break_first a w xs ys p = rw (line_joined xs ys) (breaks_first a w (concat xs) (line ys) p)
