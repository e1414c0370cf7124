-- Numbers of few digits.
use Rattle.std.proofs.Common.{◌≡◌, ◌∙◌, ℕ, zero, suc, ◌+◌, ◌-◌, ◌*◌, ◌/◌, ◌%◌, ◌<◌, ◌≤◌, Bool, true, ◌&&◌, T, eqb, List, [], ◌∷◌, ◌++◌, get_or, inl, inr, sym, ap, arith, eq-zero-or-pos, eqb→eq, append_assoc}
use Rattle.std.specs.Prelude.{decimal}
use Rattle.std.proofs.lemmas.Fmt.{decimal_digit, decimal_step}
use lib.Ieee.Fits.{and_l, and_r}
use Rattle.room_outside.specs.declared.line_text.short_numbers.TheConstants.{PAIRS}

-- ---- the table of pairs

abbrev are_pairs : ℕ → Bool
are_pairs zero = true
are_pairs (suc p) = (eqb (get_or PAIRS (p * 2) 0) (48 + p / 10) && eqb (get_or PAIRS (p * 2 + 1) 0) (48 + p % 10)) && are_pairs p

below : (n p : ℕ) → T (are_pairs n) → p < n → (get_or PAIRS (p * 2) 0 ≡ 48 + p / 10) × (get_or PAIRS (p * 2 + 1) 0 ≡ 48 + p % 10)
below zero p t h = absurd (omega arith)
below (suc n) p t h =
    elim (eq-zero-or-pos (n - p)) [
      | inl z ↦ let e : p ≡ n = omega arith in let a = and_l _ (are_pairs n) t in rw e (eqb→eq _ _ (and_l _ _ a), eqb→eq _ _ (and_r _ _ a))
      | inr g ↦ below n p (and_r _ (are_pairs n) t) (omega arith)
    ]

pub PAIRS_at : (p : ℕ) → p < 100 → (get_or PAIRS (p * 2) 0 ≡ 48 + p / 10) × (get_or PAIRS (p * 2 + 1) 0 ≡ 48 + p % 10)
PAIRS_at p h = below 100 p tt h

-- ---- numbers

pub one_digit : (n : ℕ) → n < 10 → (48 + n) ∷ [] ≡ decimal n
one_digit n h = sym (decimal_digit n h)

-- one digit more
more : (n : ℕ) (front : List ℕ) → 10 ≤ n → n < 100000 → front ≡ decimal (n / 10) → front ++ (48 + n % 10) ∷ [] ≡ decimal n
more n front low high is = ap (λ (ds : List ℕ). ds ++ (48 + n % 10) ∷ []) is ∙ sym (decimal_step n low (omega arith))

pub two_digits : (n : ℕ) → 10 ≤ n → n < 100 → (48 + n / 10) ∷ (48 + n % 10) ∷ [] ≡ decimal n
two_digits n low high = more n ((48 + n / 10) ∷ []) low (omega arith) (one_digit (n / 10) (omega arith))

-- a pair of digits more
pair_more : (n : ℕ) (front : List ℕ) → 100 ≤ n → n < 100000 → front ≡ decimal (n / 100)
    → front ++ (48 + n % 100 / 10) ∷ (48 + n % 100 % 10) ∷ [] ≡ decimal n
pair_more n front low high is =
    let front_is : front ≡ decimal (n / 10 / 10) = is ∙ ap decimal (omega arith) in
    let tens : n % 100 / 10 ≡ n / 10 % 10 = omega arith in
    let ones : n % 100 % 10 ≡ n % 10 = omega arith in
    let first = more (n / 10) front (omega arith) (omega arith) front_is in
    rw (tens, ones) (sym (append_assoc front _ _) ∙ more n (front ++ (48 + n / 10 % 10) ∷ []) (omega arith) high first)

pub three_digits : (n : ℕ) → 100 ≤ n → n < 1000 → (48 + n / 100) ∷ (48 + n % 100 / 10) ∷ (48 + n % 100 % 10) ∷ [] ≡ decimal n
three_digits n low high = pair_more n ((48 + n / 100) ∷ []) low (omega arith) (one_digit (n / 100) (omega arith))

pub four_digits : (n : ℕ) → 1000 ≤ n → n < 10000
    → (48 + n / 100 / 10) ∷ (48 + n / 100 % 10) ∷ (48 + n % 100 / 10) ∷ (48 + n % 100 % 10) ∷ [] ≡ decimal n
four_digits n low high =
    pair_more n ((48 + n / 100 / 10) ∷ (48 + n / 100 % 10) ∷ []) (omega arith) (omega arith) (two_digits (n / 100) (omega arith) (omega arith))

pub five_digits : (n : ℕ) → 10000 ≤ n → n < 100000
    → (48 + n / 100 / 100) ∷ (48 + n / 100 % 100 / 10) ∷ (48 + n / 100 % 100 % 10) ∷ (48 + n % 100 / 10) ∷ (48 + n % 100 % 10) ∷ [] ≡ decimal n
five_digits n low high =
    pair_more n ((48 + n / 100 / 100) ∷ (48 + n / 100 % 100 / 10) ∷ (48 + n / 100 % 100 % 10) ∷ []) (omega arith) high (three_digits (n / 100) (omega arith) (omega arith))
