-- Lists of parts, put one list after another.
use Rattle.std.proofs.Common.{ℕ, List, ◌++◌, Result}
use Rattle.std.specs.List.{concat}
use Rattle.std.proofs.lemmas.List.Folds.{concat-append}
use Rattle.room_outside.specs.line_text.Output.{Output, Stop, Put, Breaks, Puts}
use Rattle.room_outside.proofs.line_text.OutputLemmas.{put_two, breaks_first, breaks_second, puts_second}

-- some parts, and then what a call puts of the others
pub parts_second : {E : Type 0} (r : Result Unit E) (a b c : Output) (xs ys : List (List ℕ))
    → Put a b (concat xs) → Puts r b c (concat ys) → Puts r a c (concat (xs ++ ys))
parts_second r a b c xs ys p q = rw concat-append (puts_second r a b c (concat xs) (concat ys) p q)

pub parts_two : (a b c : Output) (xs ys : List (List ℕ)) → Put a b (concat xs) → Put b c (concat ys) → Put a c (concat (xs ++ ys))
parts_two a b c xs ys p q = rw concat-append (put_two a b c (concat xs) (concat ys) p q)

pub parts_break_first : (a : Output) (w : Stop) (xs ys : List (List ℕ)) → Breaks a w (concat xs) → Breaks a w (concat (xs ++ ys))
parts_break_first a w xs ys p = rw concat-append (breaks_first a w (concat xs) (concat ys) p)

pub parts_break_second : (a b : Output) (w : Stop) (xs ys : List (List ℕ)) → Put a b (concat xs) → Breaks b w (concat ys) → Breaks a w (concat (xs ++ ys))
parts_break_second a b w xs ys p q = rw concat-append (breaks_second a b w (concat xs) (concat ys) p q)
