-- The value of decimal digits.
use Rattle.std.proofs.Common.{◌≡◌, ℕ, ◌+◌, ◌-◌, ◌*◌, ◌<◌, ◌≤◌, List, [], ◌∷◌, length, get_or, drop, refl, arith, add-one, drop-cons}
use Rattle.std.proofs.Common.{None}
use Rattle.std.proofs.lemmas.Bool.{lt-leb}
use Rattle.room_lexer.specs.Front.{value_from, value, max_number, number_of}

pub value_from-grows : (n : ℕ) (ds : List ℕ) → n ≤ value_from n ds
value_from-grows n [] = omega arith
value_from-grows n (d ∷ ds) = omega (arith, value_from-grows (10 * n + (d - 48)) ds)

-- one more digit
pub value_from-step : (n i : ℕ) (ds : List ℕ) → i < length ds → value_from n (drop i ds) ≡ value_from (10 * n + (get_or ds i 0 - 48)) (drop (i + 1) ds)
value_from-step n i ds h = rw (add-one, drop-cons ds i 0) refl

-- a front that is too large makes the whole too large
pub too_large : (n i : ℕ) (ds : List ℕ) → i < length ds → max_number < 10 * n + (get_or ds i 0 - 48) → value_from n (drop i ds) ≡ value ds → number_of ds ≡ None
unfolding number_of
too_large n i ds h large so_far =
    let grown : max_number < value ds = rw (← so_far, value_from-step n i ds h) (omega (arith, value_from-grows (10 * n + (get_or ds i 0 - 48)) (drop (i + 1) ds))) in
    rw (lt-leb (value ds) max_number grown) refl
