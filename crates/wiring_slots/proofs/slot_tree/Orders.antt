-- Lists in which each part is numbered behind the parts before it.
use Rattle.std.proofs.Common.{◌≡◌, ◌∙◌, ℕ, ◌+◌, ◌≤◌, List, [], ◌∷◌, ◌++◌, length, append_assoc, length-append, sym, ap, arith}
use Rattle.wiring_slots.specs.slot_tree.Orders.{in_order}

pub in_order_append : {X S : Type 0} (f : ℕ → X → List S) (n : ℕ) (xs ys : List X) → in_order f n (xs ++ ys) ≡ in_order f n xs ++ in_order f (n + length (in_order f n xs)) ys
in_order_append {X} {S} f n [] ys = let e : n ≡ n + 0 = omega arith in ap (λ k. in_order f k ys) e
in_order_append {X} {S} f n (x ∷ xs) ys =
    let here = f n x in
    let m = n + length here in
    let more = in_order f m xs in
    let count : m + length more ≡ n + length (here ++ more) = omega (arith, length-append here more) in
    ap (λ (rest : List S). here ++ rest) (in_order_append f m xs ys) ∙ sym (append_assoc here more (in_order f (m + length more) ys)) ∙ ap (λ k. (here ++ more) ++ in_order f k ys) count

pub in_order_long : {X S : Type 0} (f : ℕ → X → List S) → ((n : ℕ) (x : X) → 1 ≤ length (f n x)) → (n : ℕ) (xs : List X) → length xs ≤ length (in_order f n xs)
in_order_long f each n [] = omega arith
in_order_long f each n (x ∷ xs) =
    let here = f n x in
    let rest = in_order f (n + length here) xs in
    let some = each n x in
    let more = in_order_long f each (n + length here) xs in
    omega (arith, length-append here rest, some, more)
