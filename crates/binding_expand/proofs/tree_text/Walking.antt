-- How far a loop over numbers has come.
use Rattle.std.proofs.Common.{◌≡◌, ℕ, suc, ◌+◌, ◌-◌, ◌<◌, ◌≤◌, List, ◌++◌, ap, ◌∙◌, arith}
use Rattle.room_outside.specs.line_text.Output.{Output, Put}
use Rattle.room_outside.proofs.line_text.Going.{Going, going_begin, going_end}
use Rattle.binding_expand.specs.tree_text.Walk.{texts_from}

pub going_from_none : (f : ℕ → List ℕ) (a : Output) (n : ℕ) → Going a a (texts_from f 0 n) (texts_from f 0 (n - 0))
going_from_none f a n =
    let whole : n ≡ n - 0 = omega arith in
    let start = going_begin a (texts_from f 0 n) in
    record { done = start.done; put = start.put; split = start.split ∙ ap (λ (k : ℕ). start.done ++ texts_from f 0 k) whole }

-- the numbers that are left, the next one in front
pub going_number : (f : ℕ → List ℕ) (a b : Output) (whole : List ℕ) (i n : ℕ) → i < n → Going a b whole (texts_from f i (n - i)) → Going a b whole (f i ++ texts_from f (i + 1) (n - (i + 1)))
going_number f a b whole i n h g =
    let next : n - i ≡ suc (n - (i + 1)) = omega arith in
    record { done = g.done; put = g.put; split = g.split ∙ ap (λ (k : ℕ). g.done ++ texts_from f i k) next }

-- no number is left
pub going_numbers_end : (f : ℕ → List ℕ) (a b : Output) (whole : List ℕ) (i n : ℕ) → n ≤ i → Going a b whole (texts_from f i (n - i)) → Put a b whole
going_numbers_end f a b whole i n h g =
    let none : n - i ≡ 0 = omega arith in
    going_end a b whole (record { done = g.done; put = g.put; split = g.split ∙ ap (λ (k : ℕ). g.done ++ texts_from f i k) none })
